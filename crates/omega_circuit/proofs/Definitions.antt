-- Where the variables of false, inputs, latches and gates stand among those that a circuit defines.
use Rattle.std.proofs.Common.{◌≡◌, ◌⊎◌, inl, inr, ℕ, suc, ◌+◌, ◌-◌, ◌/◌, ◌<◌, ◌≤◌, List, [], ◌∷◌, ◌++◌, length, map, get_or, refl, ap, ◌∙◌, arith, append_assoc, length-append}
use Rattle.std.proofs.lemmas.Bool.{cases_lt}
use Rattle.std.proofs.lemmas.List.{get_or_append_left, get_or-append-add, get_or-map, length-map}
use Rattle.omega_circuit.specs.Circuit.{CircuitValue, defined_literals, defined_variables, variable_of}
use Rattle.omega_circuit.specs.private.Numbers.{first_gate, gate_at}
use Rattle.omega_circuit.specs.declared.gate.Gate.{Gate}
use Rattle.omega_circuit.specs.declared.latch.Latch.{Latch}

-- the latch at a place; one of false beyond
abbrev pub latch_at : List Latch → ℕ → Latch
latch_at latches k = get_or latches k (record { literal = 0; next = 0; reset = 0 })

-- the variable of a number
abbrev pub variable_at : CircuitValue → ℕ → ℕ
variable_at c n = get_or (defined_variables c) n 0

abbrev literal_of_latch : Latch → ℕ
literal_of_latch latch = latch.literal

abbrev literal_of_gate : Gate → ℕ
literal_of_gate gate = gate.literal

abbrev later_literals : CircuitValue → List ℕ
later_literals c = map literal_of_latch c.latches ++ map literal_of_gate c.gates

module _ (c : CircuitValue) where
  later_long : length (later_literals c) ≡ length c.latches + length c.gates
  later_long =
      omega (arith, length-append (map literal_of_latch c.latches) (map literal_of_gate c.gates), length-map c.latches literal_of_latch, length-map c.gates literal_of_gate)

  literals_long : length (defined_literals c) ≡ first_gate c + length c.gates
  literals_long = omega (arith, later_long, length-append c.inputs (later_literals c))

  -- how many variables are defined
  pub variables_long : length (defined_variables c) ≡ first_gate c + length c.gates
  variables_long = length-map (defined_literals c) variable_of ∙ literals_long

  -- the variable of a number is that of the literal of this number
  at_literal : (n : ℕ) → n < first_gate c + length c.gates → variable_at c n ≡ variable_of (get_or (defined_literals c) n 0)
  at_literal n within = get_or-map variable_of (defined_literals c) n 0 0 (omega (arith, within, literals_long))

  pub false_at : variable_at c 0 ≡ 0
  false_at = refl

  pub input_at : (k : ℕ) → k < length c.inputs → variable_at c (1 + k) ≡ get_or c.inputs k 0 / 2
  input_at k within =
      let next : 1 + k ≡ suc k = omega arith in
      at_literal (1 + k) (omega (arith, within))
      ∙ ap (λ n. variable_of (get_or (defined_literals c) n 0)) next
      ∙ ap variable_of (get_or_append_left c.inputs (later_literals c) 0 k within)

  later_at : (n k : ℕ) → n ≡ 1 + length c.inputs + k → k < length c.latches + length c.gates
      → variable_at c n ≡ variable_of (get_or (later_literals c) k 0)
  later_at n k is within =
      let next : n ≡ suc (length c.inputs + k) = omega (arith, is) in
      at_literal n (omega (arith, is, within))
      ∙ ap (λ m. variable_of (get_or (defined_literals c) m 0)) next
      ∙ ap variable_of (get_or-append-add c.inputs (later_literals c) k 0)

  pub latch_variable : (n k : ℕ) → n ≡ 1 + length c.inputs + k → k < length c.latches → variable_at c n ≡ (latch_at c.latches k).literal / 2
  latch_variable n k is within =
      later_at n k is (omega (arith, within))
      ∙ ap variable_of
      (get_or_append_left (map literal_of_latch c.latches) (map literal_of_gate c.gates) 0 k (omega (arith, within, length-map c.latches literal_of_latch))
      ∙ get_or-map literal_of_latch c.latches k (record { literal = 0; next = 0; reset = 0 }) 0 within)

  pub gate_variable : (n k : ℕ) → n ≡ first_gate c + k → k < length c.gates → variable_at c n ≡ (gate_at c.gates k).literal / 2
  gate_variable n k is within =
      let place : length c.latches + k ≡ length (map literal_of_latch c.latches) + k = omega (arith, length-map c.latches literal_of_latch) in
      later_at n (length c.latches + k) (omega (arith, is)) (omega (arith, within))
      ∙ ap variable_of
      (ap (λ m. get_or (later_literals c) m 0) place
      ∙ get_or-append-add (map literal_of_latch c.latches) (map literal_of_gate c.gates) k 0
      ∙ get_or-map literal_of_gate c.gates k (record { literal = 0; left = 0; right = 0 }) 0 within)

-- what a number stands for: false, an input, a latch or a gate
pub data Defines (c : CircuitValue) (n : ℕ) : Type 0 where
  of_false : n ≡ 0 → Defines c n
  of_input : (k : ℕ) → k < length c.inputs → n ≡ 1 + k → Defines c n
  of_latch : (k : ℕ) → k < length c.latches → n ≡ 1 + length c.inputs + k → Defines c n
  of_gate : (k : ℕ) → k < length c.gates → n ≡ first_gate c + k → Defines c n

-- each number stands for one of these
pub defines : (c : CircuitValue) (n : ℕ) → n < first_gate c + length c.gates → Defines c n
defines c n within = constant (cases_lt n 1)
  where
    gates : (n < first_gate c) ⊎ (first_gate c ≤ n) → 1 + length c.inputs ≤ n → Defines c n
    gates (inl before) past = of_latch (n - (1 + length c.inputs)) (omega (arith, before, past)) (omega (arith, past))
    gates (inr later) past = of_gate (n - first_gate c) (omega (arith, within, later)) (omega (arith, later))

    latches : (n < 1 + length c.inputs) ⊎ (1 + length c.inputs ≤ n) → 1 ≤ n → Defines c n
    latches (inl before) some = of_input (n - 1) (omega (arith, before, some)) (omega (arith, some))
    latches (inr past) some = gates (cases_lt n (first_gate c)) past

    constant : (n < 1) ⊎ (1 ≤ n) → Defines c n
    constant (inl none) = of_false (omega (arith, none))
    constant (inr some) = latches (cases_lt n (1 + length c.inputs)) some

-- 0 and then three lists, added one after the other
pub joined : (none zeros one two all xs ys zs : List ℕ) → none ≡ [] → zeros ≡ none ++ 0 ∷ [] → one ≡ zeros ++ xs → two ≡ one ++ ys → all ≡ two ++ zs
    → all ≡ 0 ∷ (xs ++ (ys ++ zs))
joined none zeros one two all xs ys zs is_none is_zero is_one is_two is_all =
    is_all
    ∙ ap (λ (l : List ℕ). l ++ zs) (is_two ∙ ap (λ (l : List ℕ). l ++ ys) (is_one ∙ ap (λ (l : List ℕ). l ++ xs) (is_zero ∙ ap (λ (l : List ℕ). l ++ 0 ∷ []) is_none)))
    ∙ ap (λ (l : List ℕ). 0 ∷ l) (append_assoc xs ys zs)
