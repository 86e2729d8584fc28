-- Two rounds of a circuit that agree on inputs and latches agree on all that is defined.
use Rattle.std.proofs.Common.{◌≡◌, ℕ, zero, suc, ◌+◌, ◌/◌, ◌<◌, Bool, length, get_or, sym, ap, ◌∙◌, subst, arith}
use Rattle.std.specs.List.{Contains}
use Rattle.omega_circuit.specs.Circuit.{CircuitValue, IsCircuit, IsDefined, defined_variables}
use Rattle.omega_circuit.specs.Rounds.{IsRound}
use Rattle.omega_circuit.specs.private.Numbers.{first_gate, gate_at}
use Rattle.omega_circuit.specs.declared.gate.Gate.{Gate}
use Rattle.omega_circuit.proofs.Definitions.{Defines, defines, of_false, of_gate, of_input, of_latch}
use Rattle.omega_circuit.proofs.Definitions.{gate_variable, input_at, latch_at, latch_variable, variable_at, variables_long}
use Rattle.omega_circuit.proofs.Places.{contained_at}
use Rattle.omega_circuit.proofs.Values.{gate_alike}

module _ (c : CircuitValue) (is : IsCircuit c) (one other : ℕ → Bool) (first : IsRound c one) (second : IsRound c other)
    (inputs : (k : ℕ) → k < length c.inputs → one (get_or c.inputs k 0 / 2) ≡ other (get_or c.inputs k 0 / 2))
    (latches : (k : ℕ) → k < length c.latches → one ((latch_at c.latches k).literal / 2) ≡ other ((latch_at c.latches k).literal / 2)) where
  -- at variables of a lesser rank than this
  abbrev AgreeBelow : ℕ → Type 0
  AgreeBelow bound = (n : ℕ) → n < first_gate c + length c.gates → is.acyclic.number (variable_at c n) < bound → one (variable_at c n) ≡ other (variable_at c n)

  at : (n v : ℕ) → variable_at c n ≡ v → one v ≡ other v → one (variable_at c n) ≡ other (variable_at c n)
  at n v is_v same = subst (λ w. one w ≡ other w) (sym is_v) same

  operand : (bound literal : ℕ) → AgreeBelow bound → IsDefined c literal → is.acyclic.number (literal / 2) < bound → one (literal / 2) ≡ other (literal / 2)
  operand bound literal lesser there low =
      let found = contained_at (defined_variables c) (literal / 2) there in
      subst (λ v. one v ≡ other v) found.2
      (lesser found.0 (omega (arith, found.1, variables_long c)) (subst (λ v. is.acyclic.number v < bound) (sym found.2) low))

  of_the_gate : (bound n k : ℕ) → AgreeBelow bound → is.acyclic.number (variable_at c n) < suc bound → k < length c.gates → n ≡ first_gate c + k
      → one ((gate_at c.gates k).literal / 2) ≡ other ((gate_at c.gates k).literal / 2)
  of_the_gate bound n k lesser below small is_gate =
      let none : Gate = record { literal = 0; left = 0; right = 0 } in
      let used = is.complete.gates k none small in
      let rises = is.acyclic.rises k none small in
      let own : is.acyclic.number ((gate_at c.gates k).literal / 2) < suc bound = subst (λ v. is.acyclic.number v < suc bound) (gate_variable c n k is_gate small) below in
      first.gates k none small
      ∙ gate_alike one other (gate_at c.gates k)
      (operand bound (gate_at c.gates k).left lesser used.0 (omega (arith, rises.0, own)))
      (operand bound (gate_at c.gates k).right lesser used.1 (omega (arith, rises.1, own)))
      ∙ sym (second.gates k none small)

  by_kind : (bound n : ℕ) → AgreeBelow bound → is.acyclic.number (variable_at c n) < suc bound → Defines c n → one (variable_at c n) ≡ other (variable_at c n)
  by_kind bound n lesser below (of_false none) = at n 0 (ap (variable_at c) none) (first.constant ∙ sym second.constant)
  by_kind bound n lesser below (of_input k small is_input) = at n (get_or c.inputs k 0 / 2) (ap (variable_at c) is_input ∙ input_at c k small) (inputs k small)
  by_kind bound n lesser below (of_latch k small is_latch) = at n ((latch_at c.latches k).literal / 2) (latch_variable c n k is_latch small) (latches k small)
  by_kind bound n lesser below (of_gate k small is_gate) =
      at n ((gate_at c.gates k).literal / 2) (gate_variable c n k is_gate small) (of_the_gate bound n k lesser below small is_gate)

  by_rank : (bound : ℕ) → AgreeBelow bound
  by_rank zero n within below = absurd (omega (arith, below))
  by_rank (suc bound) n within below = by_kind bound n (by_rank bound) below (defines c n within)

  -- at each number
  pub numbers_agree : (n : ℕ) → n < first_gate c + length c.gates → one (variable_at c n) ≡ other (variable_at c n)
  numbers_agree n within = by_rank (suc (is.acyclic.number (variable_at c n))) n within (omega arith)

  -- at each variable that is defined
  pub rounds_agree : (v : ℕ) → Contains (defined_variables c) v → one v ≡ other v
  rounds_agree v there =
      let found = contained_at (defined_variables c) v there in
      subst (λ w. one w ≡ other w) found.2 (numbers_agree found.0 (omega (arith, found.1, variables_long c)))
