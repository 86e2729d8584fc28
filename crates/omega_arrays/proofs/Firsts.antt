-- The first index at which a test passes.
use Rattle.std.proofs.Common.{◌≡◌, ℕ, ◌<◌, ◌≤◌, Bool, true, false, cond, Some, None, List, length, get_or, refl, sym, ap, ◌∙◌, arith}
use Rattle.std.specs.Prelude.{position}
use Rattle.std.specs.List.{position_or_len, range_with_len}
use Rattle.std.proofs.lemmas.Bool.{lt-ltb, le-ltb, ltb-false}
use Rattle.std.proofs.lemmas.List.FromFn.{get_or-range_with_len, length-range_with_len}
use Rattle.std.proofs.lemmas.List.Sums.{fails_before_first, position_or_len_is}

-- the test at a number of a range from 0 on
at_range : (p : ℕ → Bool) (n k : ℕ) → k < n → p (get_or (range_with_len 0 n) k 0) ≡ p k
at_range p n k h = ap p (get_or-range_with_len 0 n k 0 h ∙ omega arith)

-- the first number of a range that passes
pub first_is : (p : ℕ → Bool) (n i : ℕ) → i < n → ((k : ℕ) → k < i → p k ≡ false) → p i ≡ true → position p (range_with_len 0 n) ≡ Some i
first_is p n i h before at =
    let size = length-range_with_len 0 n in
    let found : position_or_len p (range_with_len 0 n) ≡ i =
    position_or_len_is p (range_with_len 0 n) i 0 (omega (arith, size)) (λ k below. at_range p n k (omega arith) ∙ before k below)
    (λ _. at_range p n i h ∙ at) in
    ap (λ (b : Bool). cond b (Some (position_or_len p (range_with_len 0 n))) None)
    (lt-ltb (position_or_len p (range_with_len 0 n)) (length (range_with_len 0 n)) (omega (arith, size, found)))
    ∙ ap Some found

-- no number of a range passes
pub none_is : (p : ℕ → Bool) (n : ℕ) → ((k : ℕ) → k < n → p k ≡ false) → position p (range_with_len 0 n) ≡ None
none_is p n fails =
    let size = length-range_with_len 0 n in
    let found : position_or_len p (range_with_len 0 n) ≡ n =
    position_or_len_is p (range_with_len 0 n) n 0 (omega (arith, size)) (λ k below. at_range p n k below ∙ fails k below)
    (λ inside. absurd (omega (arith, size))) in
    ap (λ (b : Bool). cond b (Some (position_or_len p (range_with_len 0 n))) None)
    (le-ltb (position_or_len p (range_with_len 0 n)) (length (range_with_len 0 n)) (omega (arith, size, found)))

-- a choice of something and nothing that is nothing
cond-None : {A : Type 0} (b : Bool) (x : A) → cond b (Some x) None ≡ None → b ≡ false
cond-None true x e = cc
cond-None false x e = refl

-- if no entry passes, each fails
pub fails_at : {X : Type 0} (p : X → Bool) (xs : List X) (k : ℕ) (d : X) → position p xs ≡ None → k < length xs → p (get_or xs k d) ≡ false
fails_at p xs k d none h =
    let past : length xs ≤ position_or_len p xs = ltb-false (position_or_len p xs) (length xs) (cond-None _ (position_or_len p xs) none) in
    fails_before_first p xs k d (omega arith)

-- if no number of a range passes, each fails
pub range_fails_at : (p : ℕ → Bool) (n k : ℕ) → position p (range_with_len 0 n) ≡ None → k < n → p k ≡ false
range_fails_at p n k none h =
    sym (at_range p n k h) ∙ fails_at p (range_with_len 0 n) k 0 none (omega (arith, length-range_with_len 0 n))
