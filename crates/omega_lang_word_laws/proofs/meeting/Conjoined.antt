-- The acceptance of two formulas together is that of both, also where one of them is `t` and left out.
use Rattle.std.proofs.Common.{◌≡◌, ℕ, Bool, true, false, if◌then◌else◌, List, refl}
use Rattle.std.proofs.lemmas.Bool.{false≢true}
use Rattle.omega_hoa_acceptance.specs.Acceptance.{AccTree, conjunction, constant, disjunction, fin, inf}
use Rattle.omega_lang_runs.specs.Runs.{Satisfies}
use Rattle.omega_lang_product.specs.Acceptance.{both_formulas, is_true}

module _ (all : ℕ → List ℕ) where
  -- all marks satisfy `t`
  true_satisfied : (formula : AccTree) → is_true formula ≡ true → Satisfies all formula
  true_satisfied (constant value) e = e
  true_satisfied (inf negated set) e = absurd (false≢true e)
  true_satisfied (fin negated set) e = absurd (false≢true e)
  true_satisfied (conjunction left right) e = absurd (false≢true e)
  true_satisfied (disjunction left right) e = absurd (false≢true e)

  pub both_satisfied : (formula other : AccTree) → Satisfies all formula × Satisfies all other → Satisfies all (both_formulas formula other)
  both_satisfied formula other both = go (is_true formula) (is_true other)
    where
      go : (b c : Bool) → Satisfies all (if b then other else if c then formula else conjunction formula other)
      go true c = both.1
      go false true = both.0
      go false false = both

  pub satisfied_both : (formula other : AccTree) → Satisfies all (both_formulas formula other) → Satisfies all formula × Satisfies all other
  satisfied_both formula other h = go (is_true formula) (is_true other) refl refl h
    where
      go : (b c : Bool) → is_true formula ≡ b → is_true other ≡ c → Satisfies all (if b then other else if c then formula else conjunction formula other)
          → Satisfies all formula × Satisfies all other
      go true c is is' own = (true_satisfied formula is, own)
      go false true is is' own = (own, true_satisfied other is')
      go false false is is' own = own
