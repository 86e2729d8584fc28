-- The place of an element among others that are distinct.
use Rattle.std.proofs.Common.{◌≡◌, ◌<◌, ◌&&◌, ℕ, Bool, true, false, cond, nat_eq, nat_lt, List, length, get_or, None, Some, position, refl, subst, sym, ap, ap₂, ◌∙◌, arith, eq-eqb, eqb-true}
use Rattle.std.specs.List.{IsDistinct, position_or_len}
use Rattle.std.proofs.lemmas.Bool.{lt-ltb}
use Rattle.std.proofs.lemmas.List.Sums.{position_or_len_is}
use Rattle.std.proofs.lemmas.Map.Keys.{apart_from_distinct}
use Rattle.omega_lang_product.specs.Pairs.{Pair, pair_number, same_pair}
use Rattle.omega_lang_product.proofs.Reaching.{same_as_itself}

-- the first element that is the same as the one at a place is that one
own_place : {X : Type 0} (same : X → X → Bool) (flips : (x y : X) → same x y ≡ same y x) (itself : (x : X) → same x x ≡ true) (keys : List X) (i : ℕ) (d : X)
    → IsDistinct same keys → i < length keys → position_or_len (same (get_or keys i d)) keys ≡ i
own_place same flips itself keys i d distinct within = position_or_len_is (same (get_or keys i d)) keys i d (omega (arith, within))
    (λ k earlier. flips (get_or keys i d) (get_or keys k d) ∙ apart_from_distinct same keys k i d distinct earlier within)
    (λ _. itself (get_or keys i d))

-- whether numbers are the same does not depend on their order
same_turned : (x y : ℕ) → nat_eq x y ≡ nat_eq y x
same_turned x y = go (nat_eq x y) (nat_eq y x) refl refl
  where
    go : (b c : Bool) → nat_eq x y ≡ b → nat_eq y x ≡ c → nat_eq x y ≡ nat_eq y x
    go true c e f = subst (λ (z : ℕ). nat_eq x z ≡ nat_eq z x) (eqb-true x y e) refl
    go false true e f = subst (λ (z : ℕ). nat_eq z y ≡ nat_eq y z) (eqb-true y x f) refl
    go false false e f = e ∙ sym f

pair_turned : (x y : Pair) → same_pair x y ≡ same_pair y x
pair_turned x y = ap₂ ◌&&◌ (same_turned x.0 y.0) (same_turned x.1 y.1)

-- a number that stands at the place of the same number has that place
pub own_number : (keys : List ℕ) (number d : ℕ) → IsDistinct nat_eq keys → number < length keys → get_or keys number d ≡ number
    → position (nat_eq number) keys ≡ Some number
own_number keys number d distinct within here =
    let place : position_or_len (nat_eq number) keys ≡ number =
    ap (λ (n : ℕ). position_or_len (nat_eq n) keys) (sym here) ∙ own_place nat_eq same_turned (λ x. eq-eqb x x refl) keys number d distinct within in
    ap (λ (n : ℕ). cond (nat_lt n (length keys)) (Some n) None) place
    ∙ ap (λ b. cond b (Some number) None) (lt-ltb number (length keys) within)

-- the number of a pair is its place
pub own_pair : (keys : List Pair) (at : ℕ) (pair : Pair) → IsDistinct same_pair keys → at < length keys → pair ≡ get_or keys at pair
    → at ≡ pair_number keys pair
own_pair keys at pair distinct within here =
    sym (ap (λ (p : Pair). position_or_len (same_pair p) keys) here ∙ own_place same_pair pair_turned same_as_itself keys at pair distinct within)
