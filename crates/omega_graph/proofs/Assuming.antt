-- A formula with a value in place of an atom `Fin`. It is stronger if the value implies the atom, and weaker if the
-- atom implies the value.
use Rattle.std.proofs.Common.{◌≡◌, ℕ, Bool, true, false, not, inl, inr, List, ◌==◌, if◌then◌else◌, sym, ap, refl, ◌∙◌}
use Rattle.std.proofs.lemmas.Bool.{and_from, and_parts, eqb-true, false≢true, not-true, not_from_false, or_cases, or_left, or_right}
use Rattle.omega_hoa_acceptance.specs.Acceptance.{AccTree, accepts, conjunction, constant, disjunction, fin, inf, occurs}
use Rattle.omega_graph.specs.Marks.{assumed, is_same_atom}

-- two equal `Bool`s
same_sign : (x y : Bool) → (if x then y else not y) ≡ true → x ≡ y
same_sign true true is = refl
same_sign true false is = absurd (false≢true is)
same_sign false true is = absurd (false≢true is)
same_sign false false is = refl

module _ (marks : List (List ℕ)) (negated : Bool) (set : ℕ) (value : Bool) where
  -- the same atom has the same value
  same_occurs : (negated' : Bool) (set' : ℕ) → is_same_atom negated set negated' set' ≡ true → occurs marks negated set ≡ occurs marks negated' set'
  same_occurs negated' set' is =
      let parts = and_parts (if negated then negated' else not negated') (set == set') is in
      ap (λ b. occurs marks b set) (same_sign negated negated' parts.0) ∙ ap (occurs marks negated') (eqb-true set set' parts.1)

  -- with a value that is true only if the atom is
  pub holds_if_assumed : (value ≡ true → occurs marks negated set ≡ false) → (formula : AccTree)
      → accepts marks (assumed negated set value formula) ≡ true → accepts marks formula ≡ true
  holds_if_assumed right (constant other) holds = holds
  holds_if_assumed right (inf negated' set') holds = holds
  holds_if_assumed right (fin negated' set') holds = cases (is_same_atom negated set negated' set') refl holds
    where
      cases : (same : Bool) → is_same_atom negated set negated' set' ≡ same
          → accepts marks (if same then constant value else fin negated' set') ≡ true → not (occurs marks negated' set') ≡ true
      cases true is holds = not_from_false (occurs marks negated' set') (sym (same_occurs negated' set' is) ∙ right holds)
      cases false is holds = holds
  holds_if_assumed right (conjunction left other) holds =
      let parts = and_parts (accepts marks (assumed negated set value left)) (accepts marks (assumed negated set value other)) holds in
      and_from (accepts marks left) (accepts marks other) (holds_if_assumed right left parts.0) (holds_if_assumed right other parts.1)
  holds_if_assumed right (disjunction left other) holds =
      elim (or_cases (accepts marks (assumed negated set value left)) (accepts marks (assumed negated set value other)) holds) [
        | inl part ↦ or_left (accepts marks left) (accepts marks other) (holds_if_assumed right left part)
        | inr part ↦ or_right (accepts marks left) (accepts marks other) (holds_if_assumed right other part)
      ]

  -- with a value that is true if the atom is
  pub assumed_if_holds : (occurs marks negated set ≡ false → value ≡ true) → (formula : AccTree)
      → accepts marks formula ≡ true → accepts marks (assumed negated set value formula) ≡ true
  assumed_if_holds right (constant other) holds = holds
  assumed_if_holds right (inf negated' set') holds = holds
  assumed_if_holds right (fin negated' set') holds = cases (is_same_atom negated set negated' set') refl holds
    where
      cases : (same : Bool) → is_same_atom negated set negated' set' ≡ same
          → not (occurs marks negated' set') ≡ true → accepts marks (if same then constant value else fin negated' set') ≡ true
      cases true is holds = right (same_occurs negated' set' is ∙ not-true (occurs marks negated' set') holds)
      cases false is holds = holds
  assumed_if_holds right (conjunction left other) holds =
      let parts = and_parts (accepts marks left) (accepts marks other) holds in
      and_from (accepts marks (assumed negated set value left)) (accepts marks (assumed negated set value other))
      (assumed_if_holds right left parts.0) (assumed_if_holds right other parts.1)
  assumed_if_holds right (disjunction left other) holds =
      elim (or_cases (accepts marks left) (accepts marks other) holds) [
        | inl part ↦
            or_left (accepts marks (assumed negated set value left)) (accepts marks (assumed negated set value other)) (assumed_if_holds right left part)
        | inr part ↦
            or_right (accepts marks (assumed negated set value left)) (accepts marks (assumed negated set value other)) (assumed_if_holds right other part)
      ]
