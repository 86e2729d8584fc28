-- Finite searches: for each number or element one of two facts, so the first somewhere or the second everywhere.
use Rattle.std.proofs.Common.{◌≡◌, ℕ, zero, suc, ◌<◌, ◌≤◌, ◌⊎◌, inl, inr, List, length, Contains, slice_index, subst, ◌∙◌, arith}
use Rattle.std.proofs.lemmas.Bool.{cases_lt}
use Rattle.std.proofs.lemmas.List.{get_or_default}
use Rattle.std.proofs.lemmas.List.Elements.{Contains-get_or}

-- one number more
next_place : (P Q : ℕ → Type 0) (n : ℕ) → ((v : ℕ) × (v < n) × P v) ⊎ ((v : ℕ) → v < n → Q v) → P n ⊎ Q n
    → ((v : ℕ) × (v < suc n) × P v) ⊎ ((v : ℕ) → v < suc n → Q v)
next_place P Q n (inl found) here = inl (found.0, omega (arith, found.1), found.2)
next_place P Q n (inr none) (inl here) = inl (n, omega arith, here)
next_place P Q n (inr none) (inr other) = inr (λ v below. last v below (cases_lt v n))
  where
    last : (v : ℕ) → v < suc n → (v < n) ⊎ (n ≤ v) → Q v
    last v below (inl earlier) = none v earlier
    last v below (inr from) = let e : n ≡ v = omega arith in subst Q e other

-- among the numbers below n
pub sought_below : (P Q : ℕ → Type 0) → ((v : ℕ) → P v ⊎ Q v) → (n : ℕ) → ((v : ℕ) × (v < n) × P v) ⊎ ((v : ℕ) → v < n → Q v)
sought_below P Q decide zero = inr (λ v below. absurd (omega arith))
sought_below P Q decide (suc n) = next_place P Q n (sought_below P Q decide n) (decide n)

-- among the numbers of a list
pub sought_in : (P Q : ℕ → Type 0) → ((x : ℕ) → P x ⊎ Q x) → (xs : List ℕ) → ((y : ℕ) × Contains xs y × P y) ⊎ ((y : ℕ) → Contains xs y → Q y)
sought_in P Q decide xs = go (sought_below (λ k. P (slice_index xs k)) (λ k. Q (slice_index xs k)) (λ k. decide (slice_index xs k)) (length xs))
  where
    go : ((k : ℕ) × (k < length xs) × P (slice_index xs k)) ⊎ ((k : ℕ) → k < length xs → Q (slice_index xs k))
        → ((y : ℕ) × Contains xs y × P y) ⊎ ((y : ℕ) → Contains xs y → Q y)
    go (inl found) = inl (slice_index xs found.0, Contains-get_or xs found.0 0 found.1, found.2)
    go (inr none) = inr (λ y contained. subst Q (get_or_default xs contained.0 0 y contained.1 ∙ contained.2) (none contained.0 contained.1))
