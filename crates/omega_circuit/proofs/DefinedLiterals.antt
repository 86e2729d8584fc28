-- The literals of inputs, latches and gates by their places among those that a circuit defines.
use Rattle.std.proofs.Common.{◌≡◌, ℕ, suc, ◌+◌, ◌<◌, List, ◌++◌, length, map, get_or, refl, ap, ◌∙◌, arith, length-append}
use Rattle.std.proofs.lemmas.List.{get_or_append_left, get_or-append-add, get_or-map, length-map}
use Rattle.omega_circuit.specs.Circuit.{CircuitValue, defined_literals}
use Rattle.omega_circuit.specs.private.Numbers.{first_gate, gate_at}
use Rattle.omega_circuit.specs.private.Renumbered.{latch_at}
use Rattle.omega_circuit.specs.declared.gate.Gate.{Gate}
use Rattle.omega_circuit.specs.declared.latch.Latch.{Latch}

-- the literal at a place
abbrev pub literal_at : CircuitValue → ℕ → ℕ
literal_at c n = get_or (defined_literals c) n 0

abbrev literal_of_latch : Latch → ℕ
literal_of_latch latch = latch.literal

abbrev literal_of_gate : Gate → ℕ
literal_of_gate gate = gate.literal

abbrev later_literals : CircuitValue → List ℕ
later_literals c = map literal_of_latch c.latches ++ map literal_of_gate c.gates

module _ (c : CircuitValue) where
  later_long : length (later_literals c) ≡ length c.latches + length c.gates
  later_long =
      omega (arith, length-append (map literal_of_latch c.latches) (map literal_of_gate c.gates), length-map c.latches literal_of_latch, length-map c.gates literal_of_gate)

  -- how many there are
  pub literals_long : length (defined_literals c) ≡ first_gate c + length c.gates
  literals_long = omega (arith, later_long, length-append c.inputs (later_literals c))

  pub input_literal : (k : ℕ) → k < length c.inputs → literal_at c (1 + k) ≡ get_or c.inputs k 0
  input_literal k within =
      let next : 1 + k ≡ suc k = omega arith in
      ap (literal_at c) next ∙ get_or_append_left c.inputs (later_literals c) 0 k within

  later_literal : (n k : ℕ) → n ≡ 1 + length c.inputs + k → literal_at c n ≡ get_or (later_literals c) k 0
  later_literal n k is =
      let next : n ≡ suc (length c.inputs + k) = omega (arith, is) in
      ap (literal_at c) next ∙ get_or-append-add c.inputs (later_literals c) k 0

  pub latch_literal : (k : ℕ) → k < length c.latches → literal_at c (1 + length c.inputs + k) ≡ (latch_at c.latches k).literal
  latch_literal k within =
      later_literal (1 + length c.inputs + k) k refl
      ∙ get_or_append_left (map literal_of_latch c.latches) (map literal_of_gate c.gates) 0 k (omega (arith, within, length-map c.latches literal_of_latch))
      ∙ get_or-map literal_of_latch c.latches k (record { literal = 0; next = 0; reset = 0 }) 0 within

  pub gate_literal : (k : ℕ) → k < length c.gates → literal_at c (first_gate c + k) ≡ (gate_at c.gates k).literal
  gate_literal k within =
      let place : length c.latches + k ≡ length (map literal_of_latch c.latches) + k = omega (arith, length-map c.latches literal_of_latch) in
      later_literal (first_gate c + k) (length c.latches + k) (omega arith)
      ∙ ap (λ m. get_or (later_literals c) m 0) place
      ∙ get_or-append-add (map literal_of_latch c.latches) (map literal_of_gate c.gates) k 0
      ∙ get_or-map literal_of_gate c.gates k (record { literal = 0; left = 0; right = 0 }) 0 within
