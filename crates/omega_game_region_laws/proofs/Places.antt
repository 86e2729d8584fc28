-- Sets of places as tests: what is left of one without another, how many of the first places one has,
-- a function changed at one place.
use Rattle.std.proofs.Common.{◌≡◌, ◌≢◌, ◌==◌, ℕ, zero, suc, ◌+◌, ◌<◌, ◌≤◌, ◌⊎◌, inl, inr, Bool, true, false, cond, not, ◌&&◌, refl, sym, ap, subst, arith, eq-eqb, ne_eqb}
use Rattle.std.proofs.lemmas.Bool.{cases_lt, false≢true, and_parts, and_from, not-true, not_from_false}

-- in the first set and not in the second
abbrev pub minus : (ℕ → Bool) → (ℕ → Bool) → ℕ → Bool
minus S A v = S v && not (A v)

-- what is left is in the first set and not in the second
pub minus_parts : (S A : ℕ → Bool) (v : ℕ) → minus S A v ≡ true → (S v ≡ true) × (A v ≡ false)
minus_parts S A v is = let parts = and_parts (S v) (not (A v)) is in (parts.0, not-true (A v) parts.1)

-- and what is so is left
pub minus_from : (S A : ℕ → Bool) (v : ℕ) → S v ≡ true → A v ≡ false → minus S A v ≡ true
minus_from S A v here out = and_from (S v) (not (A v)) here (not_from_false (A v) out)

-- what the second set has is not left
pub minus_out : (S A : ℕ → Bool) (v : ℕ) → A v ≡ true → minus S A v ≡ false
minus_out S A v gone = go (S v) (A v) gone
  where
    go : (s a : Bool) → a ≡ true → (s && not a) ≡ false
    go false a e = refl
    go true true e = refl
    go true false e = sym e

-- how many of the first n places the set has
abbrev pub size : (ℕ → Bool) → ℕ → ℕ
size S zero = 0
size S (suc n) = cond (S n) 1 0 + size S n

-- a test that implies another counts no more
one_if : (a b : Bool) → (a ≡ true → b ≡ true) → cond {A = ℕ} a 1 0 ≤ cond b 1 0
one_if false b within = omega arith
one_if true true within = omega arith
one_if true false within = absurd (false≢true (within refl))

-- a part has no more places
pub size_le : (S R : ℕ → Bool) (n : ℕ) → ((v : ℕ) → S v ≡ true → R v ≡ true) → size S n ≤ size R n
size_le S R zero within = omega arith
size_le S R (suc n) within = omega (arith, one_if (S n) (R n) (within n), size_le S R n within)

-- a part without a place of the whole is smaller
pub size_lt : (S R : ℕ → Bool) (n v : ℕ) → ((v : ℕ) → S v ≡ true → R v ≡ true) → v < n → S v ≡ false → R v ≡ true → size S n < size R n
size_lt S R zero v within below out here = absurd (omega arith)
size_lt S R (suc n) v within below out here = go (size_lt S R n v within) (cases_lt v n)
  where
    go : (v < n → S v ≡ false → R v ≡ true → size S n < size R n) → (v < n) ⊎ (n ≤ v) → size S (suc n) < size R (suc n)
    go earlier (inl before) = omega (arith, one_if (S n) (R n) (within n), earlier before out here)
    go earlier (inr from) =
        let e : v ≡ n = omega arith in
        let none : cond {A = ℕ} (S n) 1 0 ≡ 0 = ap {B = ℕ} (λ b. cond b 1 0) (subst (λ u. S u ≡ false) e out) in
        let one : cond {A = ℕ} (R n) 1 0 ≡ 1 = ap {B = ℕ} (λ b. cond b 1 0) (subst (λ u. R u ≡ true) e here) in
        omega (arith, size_le S R n within)

-- the function with another value at one place
abbrev pub changed : {X : Type 0} → (ℕ → X) → ℕ → X → ℕ → X
changed f v x u = cond (u == v) x (f u)

-- at the place it has the new value
pub changed_at : {X : Type 0} (f : ℕ → X) (v : ℕ) (x : X) (u : ℕ) → u ≡ v → changed f v x u ≡ x
changed_at f v x u e = ap (λ b. cond b x (f u)) (eq-eqb u v e)

-- elsewhere the old one
pub changed_off : {X : Type 0} (f : ℕ → X) (v : ℕ) (x : X) (u : ℕ) → u ≢ v → changed f v x u ≡ f u
changed_off f v x u apart = ap (λ b. cond b x (f u)) (ne_eqb u v apart)
