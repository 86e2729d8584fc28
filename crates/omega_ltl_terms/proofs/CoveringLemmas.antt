-- Values of demands, whether they are covered, one by one.
use Rattle.std.proofs.Common.{◌≡◌, inl, inr, ◌<◌, ◌+◌, ◌↔◌, ℕ, Bool, false, List, [], ◌∷◌, ◌++◌, length, sym}
use Rattle.std.proofs.Common.{ap, subst, ◌∙◌, arith, get_or}
use Rattle.std.specs.Prelude.{IsTrue}
use Rattle.std.proofs.lemmas.Bool.{cases_lt, false≢true}
use Rattle.std.proofs.lemmas.List.{get_or_append_left, get_or_at, get_or_past, length_push}
use Rattle.omega_ltl_shapes.specs.Combinations.{combined}
use Rattle.omega_ltl_shapes.specs.Covers.{Covers, CoversCombination, HasLiteral, Step, has_literal}
use Rattle.omega_ltl_shapes.specs.Shapes.{AreGrounded, shape_at}
use Rattle.omega_ltl_shapes.specs.declared.combination.Combination.{Combination}
use Rattle.omega_ltl_shapes.specs.declared.cube.Cube.{Cube}
use Rattle.omega_ltl_shapes.specs.declared.shape.Shape.{Shape}
use Rattle.omega_ltl_shapes.proofs.Combining.{combined_says, says_all}
use Rattle.omega_ltl_shapes.proofs.Covering.{folds, step_more, unfolds}
use Rattle.omega_ltl_terms.specs.Tables.{AreCovered}

module _ (shapes : List Shape) (cube : Cube) (next : List ℕ) where
  -- what stands so is covered
  pub covered_there : (count : ℕ) (covered : List Bool) → AreCovered shapes cube next count covered → (d : ℕ) → IsTrue (get_or covered d false) → Covers shapes cube next d
  covered_there count covered are d h = elim (cases_lt d (length covered)) [
    | inl low ↦ (are.values d (omega (arith, are.long))).0 h
    | inr high ↦ absurd (false≢true (sym (get_or_past covered d false high) ∙ h))
  ]

  pub covered_more : AreGrounded shapes → (d : ℕ) (covered : List Bool) (value : Bool) → AreCovered shapes cube next d covered
      → IsTrue value ↔ Step cube next (λ e. IsTrue (get_or covered e false)) d (shape_at shapes d) → AreCovered shapes cube next (d + 1) (covered ++ value ∷ [])
  covered_more grounded d covered value are step = record {
    long = length_push covered value ∙ ap (λ (n : ℕ). n + 1) are.long;
    values = values;
  }
    where
      last : get_or (covered ++ value ∷ []) d false ≡ value
      last = get_or_at covered value [] false d are.long

      here : IsTrue value ↔ Covers shapes cube next d
      here = (
        λ h. folds shapes grounded cube next d (step_more cube cube next next (λ e. IsTrue (get_or covered e false)) (Covers shapes cube next) d (shape_at shapes d) (grounded d)
            (λ name negated l. l) (λ e l. l) (λ e low l. (are.values e low).0 l) (step.0 h)),
        λ h. step.1 (step_more cube cube next next (Covers shapes cube next) (λ e. IsTrue (get_or covered e false)) d (shape_at shapes d) (grounded d)
            (λ name negated l. l) (λ e l. l) (λ e low l. (are.values e low).1 l) (unfolds shapes grounded cube next d h)),
      )

      values : (e : ℕ) → e < d + 1 → IsTrue (get_or (covered ++ value ∷ []) e false) ↔ Covers shapes cube next e
      values e low = elim (cases_lt e d) [
        | inl before ↦ subst (λ (b : Bool). IsTrue b ↔ Covers shapes cube next e) (sym (get_or_append_left covered (value ∷ []) false e (omega (arith, are.long)))) (are.values e before)
        | inr reached ↦ (let same : d ≡ e = omega arith in
            subst (λ (n : ℕ). IsTrue (get_or (covered ++ value ∷ []) n false) ↔ Covers shapes cube next n) same
            (subst (λ (b : Bool). IsTrue b ↔ Covers shapes cube next d) (sym last) here))
      ]

  -- so combinations are
  pub combination_there : (count : ℕ) (covered : List Bool) (c : Combination) → AreCovered shapes cube next count covered
      → IsTrue (combined (has_literal cube) (λ e. get_or covered e false) c) → CoversCombination shapes cube next c
  combination_there count covered c are h =
      says_all (HasLiteral cube) (HasLiteral cube) (λ e. IsTrue (get_or covered e false)) (Covers shapes cube next) c (λ name negated l. l) (covered_there count covered are)
      (combined_says (has_literal cube) (λ e. get_or covered e false) c h)
