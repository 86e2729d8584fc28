-- What the limited principle of omniscience says of tests that pass infinitely often.
use Rattle.std.specs.Prelude.{IsTrue}
use Rattle.std.proofs.Common.{◌≡◌, ◌⊎◌, inl, inr, ℕ, ◌+◌, ◌-◌, ◌≤◌, Bool, true, false, subst, arith}
use Rattle.omega_text.specs.Omniscience.{LimitedPrincipleOfOmniscience}

-- a test of numbers passes infinitely often, or from some number on no more
abbrev pub RecursOrCeases : (ℕ → Bool) → Type 0
RecursOrCeases test = ((i : ℕ) → (j : ℕ) × (i ≤ j) × IsTrue (test j))
    ⊎ ((from : ℕ) × ((j : ℕ) → from ≤ j → test j ≡ false))

-- whether a test passes at an index or behind it
abbrev Coming : (ℕ → Bool) → ℕ → Type 0
Coming test i = ((j : ℕ) × (i ≤ j) × IsTrue (test j)) ⊎ ((j : ℕ) → i ≤ j → test j ≡ false)

-- whether it passes no more
abbrev stops : {test : ℕ → Bool} {i : ℕ} → Coming test i → Bool
stops (inl found) = false
stops (inr none) = true

module _ (omniscience : LimitedPrincipleOfOmniscience) (test : ℕ → Bool) where
  coming : (i : ℕ) → Coming test i
  coming i = go (omniscience (λ k. test (i + k)))
    where
      go : ((k : ℕ) × (test (i + k) ≡ true)) ⊎ ((k : ℕ) → test (i + k) ≡ false) → Coming test i
      go (inl found) = inl (i + found.0, omega arith, found.1)
      go (inr none) = inr (λ j following.
          let sum : i + (j - i) ≡ j = omega arith in
          subst (λ n. test n ≡ false) sum (none (j - i)))

  -- by the limited principle of omniscience each test recurs or ceases
  pub recurs_or_ceases : RecursOrCeases test
  recurs_or_ceases = go (omniscience (λ i. stops (coming i)))
    where
      recurs : (i : ℕ) (t : Coming test i) → stops t ≡ false → (j : ℕ) × (i ≤ j) × IsTrue (test j)
      recurs i (inl found) e = found
      recurs i (inr none) e = absurd (cc)

      ends : (i : ℕ) (t : Coming test i) → stops t ≡ true → (j : ℕ) → i ≤ j → test j ≡ false
      ends i (inl found) e = absurd (cc)
      ends i (inr none) e = none

      go : ((i : ℕ) × (stops (coming i) ≡ true)) ⊎ ((i : ℕ) → stops (coming i) ≡ false) → RecursOrCeases test
      go (inl end) = inr (end.0, ends end.0 (coming end.0) end.1)
      go (inr on) = inl (λ i. recurs i (coming i) (on i))
