-- An order of all gates gives numbers that rise along them, and gates in a cycle have none.
use Rattle.std.proofs.Common.{◌≡◌, inl, inr, ℕ, suc, ◌+◌, ◌-◌, ◌/◌, ◌<◌, ◌≤◌, cond, ltb, List, length, take, refl, sym, ap, ◌∙◌, subst, arith}
use Rattle.std.specs.List.{IsDistinct}
use Rattle.std.specs.Prelude.{nat_eq}
use Rattle.std.proofs.lemmas.Bool.{le-ltb, lt-ltb}
use Rattle.std.proofs.lemmas.List.{get_or_default}
use Rattle.omega_circuit.specs.Circuit.{CircuitValue, IsAcyclic, defined_variables}
use Rattle.omega_circuit.specs.private.Numbers.{AreNets, IsNumbered, first_gate, gate_at}
use Rattle.omega_circuit.specs.private.Orders.{IsCyclic, IsReady, IsSettled, IsWholeOrder, IsWired, Uses}
use Rattle.omega_circuit.specs.declared.gate.Gate.{Gate}
use Rattle.omega_circuit.proofs.Definitions.{gate_variable, variables_long}
use Rattle.omega_circuit.proofs.Places.{at_place, one_place, place_in_front, place_of, place_within}

module _ (c : CircuitValue) (nets : List Gate) (numbered : AreNets (defined_variables c) (first_gate c) c.gates nets) where
  -- operands are numbered variables
  pub wired : IsWired (first_gate c) nets
  wired k d within =
      let small : k < length c.gates = omega (arith, within, numbered.long) in
      let net = numbered.each k small in
      let same = get_or_default nets k (record { literal = 0; left = 0; right = 0 }) d within in
      subst (λ (g : Gate). (g.left / 2 < first_gate c + length nets) × (g.right / 2 < first_gate c + length nets)) same
      (omega (arith, net.left.within, variables_long c, numbered.long), omega (arith, net.right.within, variables_long c, numbered.long))

  module _ (apart : IsDistinct nat_eq (defined_variables c)) (order : List ℕ) (whole : IsWholeOrder (first_gate c) nets order) where
    -- numbers rise by the places of the gates in the order
    place_rank : ℕ → ℕ
    place_rank n = cond (ltb n (first_gate c)) 0 (suc (place_of order (n - first_gate c)))

    rank : ℕ → ℕ
    rank v = place_rank (place_of (defined_variables c) v)

    -- the rank of a gate
    rank_of_gate : (k : ℕ) → k < length c.gates → rank ((gate_at c.gates k).literal / 2) ≡ suc (place_of order k)
    unfolding rank place_rank
    rank_of_gate k within =
        ap place_rank
        (ap (place_of (defined_variables c)) (sym (gate_variable c (first_gate c + k) k refl within))
        ∙ one_place (defined_variables c) (first_gate c + k) apart (omega (arith, within, variables_long c)))
        ∙ ap (λ b. cond b 0 (suc (place_of order ((first_gate c + k) - first_gate c)))) (le-ltb (first_gate c + k) (first_gate c) (omega arith))
        ∙ ap (λ n. suc (place_of order n)) (let e : (first_gate c + k) - first_gate c ≡ k = omega arith in e)

    -- the rank of an operand that is settled
    rank_of_operand : (j literal number : ℕ) → IsNumbered (defined_variables c) literal number → IsSettled (first_gate c) (take j order) number
        → rank (literal / 2) ≤ j
    unfolding rank place_rank
    rank_of_operand j literal number is settled = subst (λ n. place_rank n ≤ j) place (go settled)
      where
        place : number / 2 ≡ place_of (defined_variables c) (literal / 2)
        place = sym (ap (place_of (defined_variables c)) (sym is.variable) ∙ one_place (defined_variables c) (number / 2) apart is.within)

        go : IsSettled (first_gate c) (take j order) number → place_rank (number / 2) ≤ j
        go (inl before) =
            let zero_rank : place_rank (number / 2) ≡ 0 = ap (λ b. cond b 0 (suc (place_of order (number / 2 - first_gate c)))) (lt-ltb (number / 2) (first_gate c) before) in
            omega (arith, zero_rank)
        go (inr gate) =
            let front : place_of order gate.0 < j = place_in_front order j gate.0 gate.2 in
            let here : number / 2 - first_gate c ≡ gate.0 = omega (arith, gate.1) in
            let its_rank : place_rank (number / 2) ≡ suc (place_of order gate.0) =
            ap (λ b. cond b 0 (suc (place_of order (number / 2 - first_gate c)))) (le-ltb (number / 2) (first_gate c) (omega (arith, gate.1)))
            ∙ ap (λ n. suc (place_of order n)) here in
            omega (arith, front, its_rank)

    pub acyclic : IsAcyclic c.gates
    acyclic = record {
      number = rank;
      rises = λ k d within. subst (λ (g : Gate). (rank (g.left / 2) < rank (g.literal / 2)) × (rank (g.right / 2) < rank (g.literal / 2)))
          (get_or_default c.gates k (record { literal = 0; left = 0; right = 0 }) d within) (above k within);
    }
      where
        above : (k : ℕ) → k < length c.gates → (rank ((gate_at c.gates k).left / 2) < rank ((gate_at c.gates k).literal / 2))
            × (rank ((gate_at c.gates k).right / 2) < rank ((gate_at c.gates k).literal / 2))
        above k within =
            let there = whole.whole k (omega (arith, within, numbered.long)) in
            let inside : place_of order k < length order = place_within order k there in
            let ready : IsReady (first_gate c) (take (place_of order k) order) (gate_at nets k) =
            subst (λ m. IsReady (first_gate c) (take (place_of order k) order) (gate_at nets m)) (at_place order k inside) (whole.sorted.ready (place_of order k) inside) in
            let net = numbered.each k within in
            let own = rank_of_gate k within in
            let left = rank_of_operand (place_of order k) (gate_at c.gates k).left (gate_at nets k).left net.left ready.left in
            let right = rank_of_operand (place_of order k) (gate_at c.gates k).right (gate_at nets k).right net.right ready.right in
            (omega (arith, own, left), omega (arith, own, right))

  -- gates in a cycle have no such numbers
  module _ (is : IsAcyclic c.gates) where
    by_gate : ℕ → ℕ
    by_gate k = is.number ((gate_at c.gates k).literal / 2)

    used_by : (k used literal number : ℕ) → IsNumbered (defined_variables c) literal number → number / 2 ≡ first_gate c + used
        → is.number (literal / 2) < by_gate k → by_gate used < by_gate k
    unfolding by_gate
    used_by k used literal number numbers place low =
        let small : used < length c.gates = omega (arith, place, numbers.within, variables_long c) in
        let same : literal / 2 ≡ (gate_at c.gates used).literal / 2 = sym numbers.variable ∙ gate_variable c (number / 2) used place small in
        subst (λ v. is.number v < is.number ((gate_at c.gates k).literal / 2)) same low

    rises_by : (k used : ℕ) → k < length c.gates → Uses (first_gate c) (gate_at nets k) used → by_gate used < by_gate k
    unfolding by_gate
    rises_by k used small (inl left) = used_by k used (gate_at c.gates k).left (gate_at nets k).left (numbered.each k small).left left (is.rises k (record { literal = 0; left = 0; right = 0 }) small).0
    rises_by k used small (inr right) = used_by k used (gate_at c.gates k).right (gate_at nets k).right (numbered.each k small).right right (is.rises k (record { literal = 0; left = 0; right = 0 }) small).1

    pub cyclic_refutes : IsCyclic (first_gate c) nets → ⊥
    cyclic_refutes none = none by_gate (λ k used within uses. rises_by k used (omega (arith, within, numbered.long)) uses)
