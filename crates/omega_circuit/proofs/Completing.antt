-- A circuit has a round for all values of inputs and latches: the value of each gate by the numbers that rise to it.
use Rattle.std.proofs.Common.{◌≡◌, ℕ, zero, suc, ◌+◌, ◌-◌, ◌/◌, ◌<◌, ◌≤◌, Bool, false, cond, ltb, length, get_or, refl, sym, ap, ◌∙◌, subst, arith}
use Rattle.std.proofs.lemmas.Bool.{le-ltb, lt-ltb, ltb-false, ltb-true}
use Rattle.omega_circuit.specs.Circuit.{CircuitValue, IsCircuit, defined_variables}
use Rattle.omega_circuit.specs.Rounds.{gate_value}
use Rattle.omega_circuit.specs.private.Numbers.{first_gate, gate_at}
use Rattle.omega_circuit.proofs.Definitions.{gate_variable, input_at, latch_at, latch_variable, variable_at, variables_long}
use Rattle.omega_circuit.proofs.Places.{at_place, one_place, place_of}
use Rattle.omega_circuit.proofs.Values.{choice_alike, gate_alike}

module _ (c : CircuitValue) (letter state : ℕ → Bool) where
  -- what is given by number: false, the inputs and the latches
  abbrev given_at : ℕ → Bool
  given_at n = cond (ltb n 1) false (cond (ltb n (1 + length c.inputs)) (letter (n - 1)) (state (n - (1 + length c.inputs))))

  -- the value of a number, if the values of variables are these
  abbrev value_by : (ℕ → Bool) → ℕ → Bool
  value_by held n = cond (ltb n (first_gate c)) (given_at n)
      (cond (ltb n (first_gate c + length c.gates)) (gate_value held (gate_at c.gates (n - first_gate c))) false)

  -- the value of a variable after so many evaluations of all gates
  abbrev settled : ℕ → ℕ → Bool
  settled zero v = false
  settled (suc times) v = value_by (settled times) (place_of (defined_variables c) v)

  module _ (is : IsCircuit c) where
    abbrev rank : ℕ → ℕ
    rank v = is.acyclic.number v

    -- the values of all variables
    pub complete : ℕ → Bool
    complete v = settled (suc (rank v)) v

    -- the value of a gate stays if those of variables of lesser rank do
    gate_stays : (one other : ℕ → Bool) (v : ℕ) → ((w : ℕ) → rank w < rank v → one w ≡ other w) → first_gate c ≤ place_of (defined_variables c) v
        → place_of (defined_variables c) v < first_gate c + length c.gates
        → gate_value one (gate_at c.gates (place_of (defined_variables c) v - first_gate c)) ≡ gate_value other (gate_at c.gates (place_of (defined_variables c) v - first_gate c))
    gate_stays one other v lesser past within =
        let n : ℕ = place_of (defined_variables c) v in
        let k : ℕ = place_of (defined_variables c) v - first_gate c in
        let below : k < length c.gates = omega (arith, past, within) in
        let place : place_of (defined_variables c) v ≡ first_gate c + k = omega (arith, past) in
        let found : variable_at c n ≡ v = at_place (defined_variables c) v (omega (arith, within, variables_long c)) in
        let own : (gate_at c.gates k).literal / 2 ≡ v = sym (gate_variable c n k place below) ∙ found in
        let rises = is.acyclic.rises k (record { literal = 0; left = 0; right = 0 }) below in
        gate_alike one other (gate_at c.gates k)
        (lesser ((gate_at c.gates k).left / 2) (subst (λ m. rank ((gate_at c.gates k).left / 2) < rank m) own rises.0))
        (lesser ((gate_at c.gates k).right / 2) (subst (λ m. rank ((gate_at c.gates k).right / 2) < rank m) own rises.1))

    -- after more evaluations than its rank a value stays
    stable : (times more v : ℕ) → rank v < times → rank v < more → settled times v ≡ settled more v
    stable zero more v enough also = absurd (omega (arith, enough))
    stable (suc times) zero v enough also = absurd (omega (arith, also))
    stable (suc times) (suc more) v enough also =
        choice_alike (ltb (place_of (defined_variables c) v) (first_gate c)) _ _ _ _ (λ _. refl)
        (λ past. choice_alike (ltb (place_of (defined_variables c) v) (first_gate c + length c.gates)) _ _ _ _
        (λ within. gate_stays (settled times) (settled more) v (λ w low. stable times more w (omega (arith, low, enough)) (omega (arith, low, also)))
        (ltb-false (place_of (defined_variables c) v) (first_gate c) past) (ltb-true (place_of (defined_variables c) v) (first_gate c + length c.gates) within)) (λ _. refl))

    -- the value of the variable of a number
    at_number : (times n : ℕ) → n < first_gate c + length c.gates → settled (suc times) (variable_at c n) ≡ value_by (settled times) n
    at_number times n within =
        ap (value_by (settled times)) (one_place (defined_variables c) n is.definitions.apart (omega (arith, within, variables_long c)))

    given : (held : ℕ → Bool) (n : ℕ) → n < first_gate c → value_by held n ≡ given_at n
    given held n before =
        ap (λ b. cond b (given_at n) (cond (ltb n (first_gate c + length c.gates)) (gate_value held (gate_at c.gates (n - first_gate c))) false)) (lt-ltb n (first_gate c) before)

    pub complete_false : complete 0 ≡ false
    unfolding complete
    complete_false = at_number (rank 0) 0 (omega arith) ∙ given (settled (rank 0)) 0 (omega arith) ∙ none
      where
        none : given_at 0 ≡ false
        none = ap (λ b. cond b false (cond (ltb 0 (1 + length c.inputs)) (letter (0 - 1)) (state (0 - (1 + length c.inputs))))) (lt-ltb 0 1 (omega arith))

    pub complete_input : (k : ℕ) → k < length c.inputs → complete (get_or c.inputs k 0 / 2) ≡ letter k
    unfolding complete
    complete_input k within =
        ap complete (sym (input_at c k within))
        ∙ at_number (rank (variable_at c (1 + k))) (1 + k) (omega (arith, within))
        ∙ given (settled (rank (variable_at c (1 + k)))) (1 + k) (omega (arith, within))
        ∙ chosen
      where
        chosen : given_at (1 + k) ≡ letter k
        chosen =
            ap (λ b. cond b false (cond (ltb (1 + k) (1 + length c.inputs)) (letter ((1 + k) - 1)) (state ((1 + k) - (1 + length c.inputs))))) (le-ltb (1 + k) 1 (omega arith))
            ∙ ap (λ b. cond b (letter ((1 + k) - 1)) (state ((1 + k) - (1 + length c.inputs)))) (lt-ltb (1 + k) (1 + length c.inputs) (omega (arith, within)))
            ∙ ap letter (let e : (1 + k) - 1 ≡ k = omega arith in e)

    pub complete_latch : (k : ℕ) → k < length c.latches → complete ((latch_at c.latches k).literal / 2) ≡ state k
    unfolding complete
    complete_latch k within =
        ap complete (sym (latch_variable c (1 + length c.inputs + k) k refl within))
        ∙ at_number (rank (variable_at c (1 + length c.inputs + k))) (1 + length c.inputs + k) (omega (arith, within))
        ∙ given (settled (rank (variable_at c (1 + length c.inputs + k)))) (1 + length c.inputs + k) (omega (arith, within))
        ∙ chosen
      where
        chosen : given_at (1 + length c.inputs + k) ≡ state k
        chosen =
            ap (λ b. cond b false (cond (ltb (1 + length c.inputs + k) (1 + length c.inputs)) (letter ((1 + length c.inputs + k) - 1)) (state ((1 + length c.inputs + k) - (1 + length c.inputs))))) (le-ltb (1 + length c.inputs + k) 1 (omega arith))
            ∙ ap (λ b. cond b (letter ((1 + length c.inputs + k) - 1)) (state ((1 + length c.inputs + k) - (1 + length c.inputs)))) (le-ltb (1 + length c.inputs + k) (1 + length c.inputs) (omega arith))
            ∙ ap state (let e : (1 + length c.inputs + k) - (1 + length c.inputs) ≡ k = omega arith in e)

    pub complete_gate : (k : ℕ) → k < length c.gates → complete ((gate_at c.gates k).literal / 2) ≡ gate_value complete (gate_at c.gates k)
    unfolding complete
    complete_gate k within =
        ap complete (sym own)
        ∙ at_number (rank (variable_at c (first_gate c + k))) (first_gate c + k) (omega (arith, within))
        ∙ chosen
        ∙ gate_alike (settled (rank (variable_at c (first_gate c + k)))) complete (gate_at c.gates k)
        (stable (rank (variable_at c (first_gate c + k))) (suc (rank ((gate_at c.gates k).left / 2))) ((gate_at c.gates k).left / 2) (less ((gate_at c.gates k).left / 2) rises.0) (omega arith))
        (stable (rank (variable_at c (first_gate c + k))) (suc (rank ((gate_at c.gates k).right / 2))) ((gate_at c.gates k).right / 2) (less ((gate_at c.gates k).right / 2) rises.1) (omega arith))
      where
        own : variable_at c (first_gate c + k) ≡ (gate_at c.gates k).literal / 2
        own = gate_variable c (first_gate c + k) k refl within

        rises : (rank ((gate_at c.gates k).left / 2) < rank ((gate_at c.gates k).literal / 2)) × (rank ((gate_at c.gates k).right / 2) < rank ((gate_at c.gates k).literal / 2))
        rises = is.acyclic.rises k (record { literal = 0; left = 0; right = 0 }) within

        less : (v : ℕ) → rank v < rank ((gate_at c.gates k).literal / 2) → rank v < rank (variable_at c (first_gate c + k))
        less v below = subst (λ m. rank v < rank m) (sym own) below

        chosen : value_by (settled (rank (variable_at c (first_gate c + k)))) (first_gate c + k) ≡ gate_value (settled (rank (variable_at c (first_gate c + k)))) (gate_at c.gates k)
        chosen =
            ap (λ b. cond b (given_at (first_gate c + k)) (cond (ltb (first_gate c + k) (first_gate c + length c.gates)) (gate_value (settled (rank (variable_at c (first_gate c + k)))) (gate_at c.gates ((first_gate c + k) - first_gate c))) false)) (le-ltb (first_gate c + k) (first_gate c) (omega arith))
            ∙ ap (λ b. cond b (gate_value (settled (rank (variable_at c (first_gate c + k)))) (gate_at c.gates ((first_gate c + k) - first_gate c))) false) (lt-ltb (first_gate c + k) (first_gate c + length c.gates) (omega (arith, within)))
            ∙ ap (λ m. gate_value (settled (rank (variable_at c (first_gate c + k)))) (gate_at c.gates m)) (let e : (first_gate c + k) - first_gate c ≡ k = omega arith in e)
