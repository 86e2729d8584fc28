-- Among n + 1 numbers below n two are equal: found by search, never by contradiction.
use Rattle.std.proofs.Common.{◌≡◌, ◌≢◌, ℕ, zero, suc, ◌-◌, ◌<◌, ◌≤◌, ◌⊎◌, inl, inr, arith, le_refl}
use Rattle.std.proofs.lemmas.Bool.{cases_lt, cases_eq}
use Rattle.omega_game_region_laws.proofs.Search.{sought_below}

-- f takes the value c below k
abbrev pub TakesBelow : (ℕ → ℕ) → ℕ → ℕ → Type 0
TakesBelow f c k = (i : ℕ) × (i < k) × (f i ≡ c)

-- a number other than c, moved down by one if it is above c
abbrev moved : {c x : ℕ} → (c < x) ⊎ (x ≤ c) → ℕ
moved {x = x} (inl above) = x - 1
moved {x = x} (inr below) = x

-- the numbers without c
without : ℕ → ℕ → ℕ
without c x = moved (cases_lt c x)

-- one less of them is enough
without_below : (n c x : ℕ) → x < suc n → c < suc n → x ≢ c → without c x < n
unfolding without
without_below n c x x_below c_below apart = go (cases_lt c x)
  where
    go : (t : (c < x) ⊎ (x ≤ c)) → moved t < n
    go (inl above) = omega arith
    go (inr below) = omega arith

-- other numbers stay apart
without_apart : (c x y : ℕ) → x ≢ c → y ≢ c → without c x ≡ without c y → x ≡ y
unfolding without
without_apart c x y x_apart y_apart = go (cases_lt c x) (cases_lt c y)
  where
    go : (s : (c < x) ⊎ (x ≤ c)) (t : (c < y) ⊎ (y ≤ c)) → moved s ≡ moved t → x ≡ y
    go (inl p) (inl q) e = omega arith
    go (inl p) (inr q) e = omega arith
    go (inr p) (inl q) e = omega arith
    go (inr p) (inr q) e = omega arith

-- two places up to n at which f has one value
pub record Repeats (f : ℕ → ℕ) (n : ℕ) : Type 0 where
  pub first : ℕ
  pub second : ℕ
  pub later : first < second
  pub within : second ≤ n
  pub same : f first ≡ f second

-- either f takes its value at n + 1 before, or the other values, moved down, repeat
repeats_step : (n : ℕ) (f : ℕ → ℕ) → ((k : ℕ) → k ≤ suc n → f k < suc n)
    → (((k : ℕ) → k ≤ n → without (f (suc n)) (f k) < n) → Repeats (λ k. without (f (suc n)) (f k)) n)
    → TakesBelow f (f (suc n)) (suc n) ⊎ ((i : ℕ) → i < suc n → f i ≢ f (suc n)) → Repeats f (suc n)
repeats_step n f below again (inl found) =
    record { first = found.0; second = suc n; later = found.1; within = le_refl _; same = found.2 }
repeats_step n f below again (inr apart) =
    let smaller : Repeats (λ k. without (f (suc n)) (f k)) n =
    again (λ k h. without_below n (f (suc n)) (f k) (below k (omega arith)) (below (suc n) (le_refl _)) (apart k (omega arith))) in
    record {
      first = smaller.first;
      second = smaller.second;
      later = smaller.later;
      within = omega arith;
      same = without_apart (f (suc n)) (f smaller.first) (f smaller.second)
          (apart smaller.first (omega arith)) (apart smaller.second (omega arith)) smaller.same;
    }

-- n + 1 numbers below n repeat
pub repeats : (n : ℕ) (f : ℕ → ℕ) → ((k : ℕ) → k ≤ n → f k < n) → Repeats f n
repeats zero f below = absurd (omega (arith, below 0 (le_refl 0)))
repeats (suc n) f below =
    repeats_step n f below (repeats n (λ k. without (f (suc n)) (f k)))
    (sought_below (λ i. f i ≡ f (suc n)) (λ i. f i ≢ f (suc n)) (λ i. cases_eq (f i) (f (suc n))) (suc n))
