-- Formulas are monotone in their atoms: they still hold with `Inf` judged on more marks and `Fin` on fewer.
use Rattle.std.proofs.Common.{◌≡◌, ℕ, Bool, true, false, not, ◌&&◌, ◌||◌, ◌⊎◌, inl, inr, List, sym, ap, refl, ◌∙◌}
use Rattle.std.proofs.lemmas.Bool.{and_from, and_parts, cases_Bool, false≢true, not-true, not_from_false, or_cases, or_left, or_parts, or_right, true≢false}
use Rattle.omega_hoa_acceptance.specs.Acceptance.{AccTree, accepts, conjunction, constant, disjunction, fin, inf, occurs}
use Rattle.omega_graph.specs.Marks.{accepts_apart, has_fin}

-- a formula that holds with `Inf` and `Fin` judged on the same marks holds of them
pub apart_same : (marks : List (List ℕ)) (formula : AccTree) → accepts_apart marks marks formula ≡ accepts marks formula
apart_same marks (constant value) = refl
apart_same marks (inf negated set) = refl
apart_same marks (fin negated set) = refl
apart_same marks (conjunction left right) =
    ap (λ b. b && accepts_apart marks marks right) (apart_same marks left) ∙ ap (λ b. accepts marks left && b) (apart_same marks right)
apart_same marks (disjunction left right) =
    ap (λ b. b || accepts_apart marks marks right) (apart_same marks left) ∙ ap (λ b. accepts marks left || b) (apart_same marks right)

-- for a formula without `Fin` the marks for `Fin` do not matter
pub without_fin : (some all other : List (List ℕ)) (formula : AccTree) → has_fin formula ≡ false
    → accepts_apart some all formula ≡ accepts_apart some other formula
without_fin some all other (constant value) none = refl
without_fin some all other (inf negated set) none = refl
without_fin some all other (fin negated set) none = absurd (true≢false none)
without_fin some all other (conjunction left right) none =
    let parts = or_parts (has_fin left) (has_fin right) none in
    ap (λ b. b && accepts_apart some all right) (without_fin some all other left parts.0)
    ∙ ap (λ b. accepts_apart some other left && b) (without_fin some all other right parts.1)
without_fin some all other (disjunction left right) none =
    let parts = or_parts (has_fin left) (has_fin right) none in
    ap (λ b. b || accepts_apart some all right) (without_fin some all other left parts.0)
    ∙ ap (λ b. accepts_apart some other left || b) (without_fin some all other right parts.1)

-- each set that occurs in `fewer` marks occurs in `more`
abbrev pub OccursIn : List (List ℕ) → List (List ℕ) → Type 0
OccursIn fewer more = (negated : Bool) (set : ℕ) → occurs fewer negated set ≡ true → occurs more negated set ≡ true

module _ (some more all fewer : List (List ℕ)) (inf_kept : OccursIn some more) (fin_kept : OccursIn fewer all) where
  unmet_in_fewer : (negated : Bool) (set : ℕ) → occurs all negated set ≡ false → (occurs fewer negated set ≡ true) ⊎ (occurs fewer negated set ≡ false)
      → occurs fewer negated set ≡ false
  unmet_in_fewer negated set none (inl is) = absurd (false≢true (sym none ∙ fin_kept negated set is))
  unmet_in_fewer negated set none (inr not) = not

  -- a formula that holds still holds
  pub holds_of_more : (formula : AccTree) → accepts_apart some all formula ≡ true → accepts_apart more fewer formula ≡ true
  holds_of_more (constant value) holds = holds
  holds_of_more (inf negated set) holds = inf_kept negated set holds
  holds_of_more (fin negated set) holds =
      not_from_false (occurs fewer negated set)
      (unmet_in_fewer negated set (not-true (occurs all negated set) holds) (cases_Bool (occurs fewer negated set)))
  holds_of_more (conjunction left right) holds =
      let parts = and_parts (accepts_apart some all left) (accepts_apart some all right) holds in
      and_from (accepts_apart more fewer left) (accepts_apart more fewer right) (holds_of_more left parts.0) (holds_of_more right parts.1)
  holds_of_more (disjunction left right) holds =
      elim (or_cases (accepts_apart some all left) (accepts_apart some all right) holds) [
        | inl part ↦ or_left (accepts_apart more fewer left) (accepts_apart more fewer right) (holds_of_more left part)
        | inr part ↦ or_right (accepts_apart more fewer left) (accepts_apart more fewer right) (holds_of_more right part)
      ]
