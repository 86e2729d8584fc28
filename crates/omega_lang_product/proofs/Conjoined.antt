-- The conjunction of two acceptance formulas, of which `t` is left out.
use Rattle.std.proofs.Common.{◌≡◌, ◌↔◌, ◌⊎◌, inl, inr, Bool, true, false, if◌then◌else◌, IsTrue, refl, sym, ap, ◌∙◌, true≢false}
use Rattle.omega_hoa_acceptance.specs.Acceptance.{AccTree, conjunction, constant, disjunction, fin, inf}
use Rattle.omega_lang_product.specs.Acceptance.{both_formulas, is_true}

-- `is_true` says whether a formula is `t`
pub true_is : (formula : AccTree) → is_true formula ≡ true → formula ≡ constant true
true_is (constant value) e = ap constant e
true_is (inf negated set) e = absurd (true≢false (sym e))
true_is (fin negated set) e = absurd (true≢false (sym e))
true_is (conjunction left right) e = absurd (true≢false (sym e))
true_is (disjunction left right) e = absurd (true≢false (sym e))

pub judged_true : (formula : AccTree) (judged : Bool) → IsTrue judged ↔ (formula ≡ constant true) → judged ≡ is_true formula
judged_true formula true judges = sym (ap is_true (judges.0 refl))
judged_true formula false judges = go (is_true formula) refl
  where
    go : (b : Bool) → is_true formula ≡ b → false ≡ b
    go true e = judges.1 (true_is formula e)
    go false e = refl

-- the conjunction by what is left out
module _ (formula other : AccTree) where
  pub first_true : is_true formula ≡ true → both_formulas formula other ≡ other
  first_true e = ap (λ b. if b then other else if is_true other then formula else conjunction formula other) e

  after_first : is_true formula ≡ false → both_formulas formula other ≡ (if is_true other then formula else conjunction formula other)
  after_first e = ap (λ b. if b then other else if is_true other then formula else conjunction formula other) e

  pub second_true : is_true formula ≡ false → is_true other ≡ true → both_formulas formula other ≡ formula
  second_true e f = after_first e ∙ ap (λ b. if b then formula else conjunction formula other) f

  pub neither_true : is_true formula ≡ false → is_true other ≡ false → both_formulas formula other ≡ conjunction formula other
  neither_true e f = after_first e ∙ ap (λ b. if b then formula else conjunction formula other) f

  -- one of them is `t`, and the conjunction is the other one; or neither is left out
  pub conjoined_cases : ((formula ≡ constant true) × (both_formulas formula other ≡ other))
      ⊎ (((other ≡ constant true) × (both_formulas formula other ≡ formula)) ⊎ (both_formulas formula other ≡ conjunction formula other))
  conjoined_cases = first (is_true formula) refl
    where
      second : (b : Bool) → is_true other ≡ b → is_true formula ≡ false
          → ((formula ≡ constant true) × (both_formulas formula other ≡ other))
          ⊎ (((other ≡ constant true) × (both_formulas formula other ≡ formula)) ⊎ (both_formulas formula other ≡ conjunction formula other))
      second true e apart = inr (inl (true_is other e, second_true apart e))
      second false e apart = inr (inr (neither_true apart e))

      first : (b : Bool) → is_true formula ≡ b
          → ((formula ≡ constant true) × (both_formulas formula other ≡ other))
          ⊎ (((other ≡ constant true) × (both_formulas formula other ≡ formula)) ⊎ (both_formulas formula other ≡ conjunction formula other))
      first true e = inl (true_is formula e, first_true e)
      first false e = second (is_true other) refl e
