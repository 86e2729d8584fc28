-- Generalized Büchi acceptance: each set occurs for ever.
use Rattle.std.proofs.Common.{◌≡◌, ◌⊎◌, ℕ, zero, suc, ◌+◌, ◌-◌, ◌<◌, ◌≤◌, inl, inr, false, List, refl, sym, subst, arith}
use Rattle.std.proofs.lemmas.Bool.{cases_lt}
use Rattle.omega_hoa_acceptance.specs.Acceptance.{AccTree}
use Rattle.omega_hoa_acceptance.specs.Kind.{buchi_formula}
use Rattle.omega_lang_runs.specs.Runs.{ForEver, Satisfies}
use Rattle.omega_lang_product.specs.Acceptance.{moved_after}
use Rattle.omega_lang_word_laws.proofs.meeting.Marks.{moved_nowhere}

module _ (all : ℕ → List ℕ) where
  -- what holds of all sets below one more
  last_of : (k set : ℕ) → set < suc (suc k) → (set < suc k) ⊎ (suc k ≡ set)
  last_of k set below = grind arith

  each_of : (before n : ℕ) → Satisfies all (moved_after before (buchi_formula n)) → (set : ℕ) → set < n → ForEver all false (before + set)
  each_of before zero h set below = absurd (omega (arith, below))
  each_of before (suc zero) h set below =
      let e : zero ≡ set = omega (arith, below) in subst (λ s. ForEver all false (before + s)) e h
  each_of before (suc (suc k)) h set below = go (last_of k set below) (λ lower. each_of before (suc k) h.0 set lower)
    where
      go : (set < suc k) ⊎ (suc k ≡ set) → (set < suc k → ForEver all false (before + set)) → ForEver all false (before + set)
      go (inl lower) rest = rest lower
      go (inr e) rest = subst (λ s. ForEver all false (before + s)) e h.1

  of_each : (before n : ℕ) → ((set : ℕ) → set < n → ForEver all false (before + set)) → Satisfies all (moved_after before (buchi_formula n))
  of_each before zero each = refl
  of_each before (suc zero) each = each zero (omega arith)
  of_each before (suc (suc k)) each = (of_each before (suc k) (λ set lower. each set (omega (arith, lower))), each (suc k) (omega arith))

  nowhere : (n : ℕ) → Satisfies all (moved_after 0 (buchi_formula n)) → Satisfies all (buchi_formula n)
  nowhere n h = let P : AccTree → Type 0 = λ f. Satisfies all f in subst P (moved_nowhere (buchi_formula n)) h

  to_nowhere : (n : ℕ) → Satisfies all (buchi_formula n) → Satisfies all (moved_after 0 (buchi_formula n))
  to_nowhere n h = let P : AccTree → Type 0 = λ f. Satisfies all f in subst P (sym (moved_nowhere (buchi_formula n))) h

  -- the sets of two counts together
  pub both_buchi : (m n : ℕ) → Satisfies all (buchi_formula m) → Satisfies all (moved_after m (buchi_formula n)) → Satisfies all (buchi_formula (m + n))
  both_buchi m n first second = nowhere (m + n) (of_each 0 (m + n) each)
    where
      each : (set : ℕ) → set < m + n → ForEver all false (0 + set)
      each set below = go (cases_lt set m)
        where
          go : (set < m) ⊎ (m ≤ set) → ForEver all false (0 + set)
          go (inl lower) = each_of 0 m (to_nowhere m first) set lower
          go (inr past) =
              let e : m + (set - m) ≡ 0 + set = omega (arith, past) in
              subst (ForEver all false) e (each_of m n second (set - m) (omega (arith, past, below)))

  pub buchi_both : (m n : ℕ) → Satisfies all (buchi_formula (m + n)) → Satisfies all (buchi_formula m) × Satisfies all (moved_after m (buchi_formula n))
  buchi_both m n h = (
    nowhere m (of_each 0 m (λ set lower. each_of 0 (m + n) (to_nowhere (m + n) h) set (omega (arith, lower)))),
    of_each m n (λ set lower.
        (let e : 0 + (m + set) ≡ m + set = omega arith in
        subst (ForEver all false) e (each_of 0 (m + n) (to_nowhere (m + n) h) (m + set) (omega (arith, lower))))),
  )
