-- Facts of numbers that hold or not: found by looking between two numbers, and by the limited principle of omniscience
-- from a number on.
use Rattle.std.proofs.Common.{◌≡◌, ◌⊎◌, inl, inr, ℕ, zero, suc, ◌+◌, ◌-◌, ◌<◌, ◌≤◌, ◌↔◌, Bool, true, false, IsTrue, refl, subst, arith}
use Rattle.std.proofs.lemmas.Bool.{cases_lt}
use Rattle.omega_text.specs.Omniscience.{LimitedPrincipleOfOmniscience}

-- a fact that holds or does not
abbrev pub Decided : Type 0 → Type 0
Decided A = A ⊎ (A → ⊥)

-- a fact of numbers that holds or does not, at each of them
abbrev pub Decides : (ℕ → Type 0) → Type 0
Decides P = (n : ℕ) → Decided (P n)

-- whether it holds
abbrev pub verdict : {A : Type 0} → Decided A → Bool
verdict (inl holds) = true
verdict (inr fails) = false

pub verdict_says : {A : Type 0} (d : Decided A) → A ↔ IsTrue (verdict d)
verdict_says (inl holds) = (λ _. refl, λ _. holds)
verdict_says (inr fails) = (λ holds. absurd (fails holds), λ e. absurd (cc))

-- what is not refuted holds
pub stable : {A : Type 0} → Decided A → ((A → ⊥) → ⊥) → A
stable (inl holds) twice = holds
stable (inr fails) twice = absurd (twice fails)

pub decided_alike : {A B : Type 0} → (A → B) → (B → A) → Decided A → Decided B
decided_alike there back (inl holds) = inl (there holds)
decided_alike there back (inr fails) = inr (λ holds. fails (back holds))

pub decided_not : {A : Type 0} → Decided A → Decided (A → ⊥)
decided_not (inl holds) = inr (λ fails. fails holds)
decided_not (inr fails) = inl fails

pub decided_both : {A B : Type 0} → Decided A → Decided B → Decided (A × B)
decided_both (inl one) (inl other) = inl (one, other)
decided_both (inl one) (inr other) = inr (λ both. other both.1)
decided_both (inr one) other = inr (λ both. one both.0)

pub decided_either : {A B : Type 0} → Decided A → Decided B → Decided (A ⊎ B)
decided_either (inl one) other = inl (inl one)
decided_either (inr one) (inl other) = inl (inr other)
decided_either (inr one) (inr other) = inr (λ either. elim either [ inl a ↦ one a | inr b ↦ other b ])

pub decided_implied : {A B : Type 0} → Decided A → Decided B → Decided (A → B)
decided_implied one (inl other) = inl (λ _. other)
decided_implied (inl one) (inr other) = inr (λ implied. other (implied one))
decided_implied (inr one) (inr other) = inl (λ a. absurd (one a))

pub decided_test : (b : Bool) → Decided (IsTrue b)
decided_test true = inl refl
decided_test false = inr (λ e. cc)

module _ (P : ℕ → Type 0) (decide : Decides P) where
  -- the first number between two at which it holds
  abbrev pub First : (from to : ℕ) → Type 0
  First from to = (k : ℕ) × (from ≤ k) × (k < to) × P k × ((j : ℕ) → from ≤ j → j < k → P j → ⊥)

  -- it holds at no number between two
  abbrev pub Never : (from to : ℕ) → Type 0
  Never from to = (j : ℕ) → from ≤ j → j < to → P j → ⊥

  pub first_between : (from to : ℕ) → First from to ⊎ Never from to
  first_between from zero = inr (λ j after below holds. omega arith)
  first_between from (suc to) = next (first_between from to) (decide to) (cases_lt to from)
    where
      last : Never from to → (P to → ⊥) → (j : ℕ) → from ≤ j → j < suc to → P j → (j < to) ⊎ (to ≤ j) → ⊥
      last none fails j after below holds (inl earlier) = none j after earlier holds
      last none fails j after below holds (inr there) = let e : j ≡ to = omega arith in fails (subst P e holds)

      next : First from to ⊎ Never from to → Decided (P to) → (to < from) ⊎ (from ≤ to) → First from (suc to) ⊎ Never from (suc to)
      next (inl found) here order = inl (found.0, found.1, omega (arith, found.2), found.3, found.4)
      next (inr none) (inl here) (inl before) = inr (λ j after below holds. omega arith)
      next (inr none) (inl here) (inr reached) = inl (to, reached, omega arith, here, none)
      next (inr none) (inr fails) order = inr (λ j after below holds. last none fails j after below holds (cases_lt j to))

  -- it holds at some number from one on, or at none
  pub some_from : LimitedPrincipleOfOmniscience → (from : ℕ)
      → ((k : ℕ) × (from ≤ k) × P k) ⊎ ((k : ℕ) → from ≤ k → P k → ⊥)
  some_from omniscience from = go (omniscience (λ n. verdict (decide (from + n))))
    where
      shown : {A : Type 0} (d : Decided A) → verdict d ≡ true → A
      shown d e = (verdict_says d).1 e

      refuted : {A : Type 0} (d : Decided A) → verdict d ≡ false → A → ⊥
      refuted (inl holds) e = absurd (cc)
      refuted (inr fails) e = fails

      go : ((n : ℕ) × (verdict (decide (from + n)) ≡ true)) ⊎ ((n : ℕ) → verdict (decide (from + n)) ≡ false)
          → ((k : ℕ) × (from ≤ k) × P k) ⊎ ((k : ℕ) → from ≤ k → P k → ⊥)
      go (inl found) = inl (from + found.0, omega arith, shown (decide (from + found.0)) found.1)
      go (inr none) = inr (λ k after holds.
          let sum : k ≡ from + (k - from) = omega arith in
          refuted (decide (from + (k - from))) (none (k - from)) (subst P sum holds))

  -- the first number from one on at which it holds, if there is one
  pub first_from : LimitedPrincipleOfOmniscience → (from : ℕ)
      → ((k : ℕ) × (from ≤ k) × P k × ((j : ℕ) → from ≤ j → j < k → P j → ⊥)) ⊎ ((k : ℕ) → from ≤ k → P k → ⊥)
  first_from omniscience from = go (some_from omniscience from)
    where
      least : (k : ℕ) → from ≤ k → P k → First from (suc k) ⊎ Never from (suc k)
          → (n : ℕ) × (from ≤ n) × P n × ((j : ℕ) → from ≤ j → j < n → P j → ⊥)
      least k after holds (inl found) = (found.0, found.1, found.3, found.4)
      least k after holds (inr none) = absurd (none k after (omega arith) holds)

      go : ((k : ℕ) × (from ≤ k) × P k) ⊎ ((k : ℕ) → from ≤ k → P k → ⊥)
          → ((k : ℕ) × (from ≤ k) × P k × ((j : ℕ) → from ≤ j → j < k → P j → ⊥)) ⊎ ((k : ℕ) → from ≤ k → P k → ⊥)
      go (inl found) = inl (least found.0 found.1 found.2 (first_between from (suc found.0)))
      go (inr none) = inr none

-- it holds at each number between two, or fails at one of them
pub all_between : (P : ℕ → Type 0) → Decides P → (from to : ℕ)
    → ((j : ℕ) → from ≤ j → j < to → P j) ⊎ ((j : ℕ) × (from ≤ j) × (j < to) × (P j → ⊥))
all_between P decide from to = go (first_between (λ n. P n → ⊥) (λ n. decided_not (decide n)) from to)
  where
    go : First (λ n. P n → ⊥) (λ n. decided_not (decide n)) from to ⊎ Never (λ n. P n → ⊥) (λ n. decided_not (decide n)) from to
        → ((j : ℕ) → from ≤ j → j < to → P j) ⊎ ((j : ℕ) × (from ≤ j) × (j < to) × (P j → ⊥))
    go (inl found) = inr (found.0, found.1, found.2, found.3)
    go (inr none) = inl (λ j after below. stable (decide j) (none j after below))
