-- Generalized Büchi acceptance: each set occurs for ever.
use Rattle.std.proofs.Common.{◌≡◌, ◌⊎◌, ℕ, zero, suc, ◌<◌, inl, inr, false, List, refl, subst, arith}
use Rattle.omega_hoa_acceptance.specs.Kind.{buchi_formula}
use Rattle.omega_lang_runs.specs.Runs.{ForEver, Satisfies}

module _ (all : ℕ → List ℕ) where
  last_of : (k set : ℕ) → set < suc (suc k) → (set < suc k) ⊎ (suc k ≡ set)
  last_of k set below = grind arith

  pub each_recurs : (n : ℕ) → Satisfies all (buchi_formula n) → (set : ℕ) → set < n → ForEver all false set
  each_recurs zero h set below = absurd (omega arith)
  each_recurs (suc zero) h set below = let e : zero ≡ set = omega arith in subst (λ s. ForEver all false s) e h
  each_recurs (suc (suc k)) h set below = go (last_of k set below) (λ lower. each_recurs (suc k) h.0 set lower)
    where
      go : (set < suc k) ⊎ (suc k ≡ set) → (set < suc k → ForEver all false set) → ForEver all false set
      go (inl lower) rest = rest lower
      go (inr e) rest = subst (λ s. ForEver all false s) e h.1

  pub recurs_each : (n : ℕ) → ((set : ℕ) → set < n → ForEver all false set) → Satisfies all (buchi_formula n)
  recurs_each zero each = refl
  recurs_each (suc zero) each = each zero (omega arith)
  recurs_each (suc (suc k)) each = (recurs_each (suc k) (λ set lower. each set (omega arith)), each (suc k) (omega arith))
