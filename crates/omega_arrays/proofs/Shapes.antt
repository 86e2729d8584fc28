-- Arrays without a wrong entry encode a game.
use Rattle.std.proofs.Common.{◌≡◌, ℕ, zero, suc, ◌+◌, ◌-◌, ◌<◌, ◌≤◌, Bool, true, false, cond, Option, Some, None, List, length, get_or, All, refl, eqb, arith}
use Rattle.std.specs.Prelude.{option_map, nat_le, nat_lt}
use Rattle.std.specs.Option.{option_or}
use Rattle.std.proofs.lemmas.Bool.{eqb-false, eqb-true, leb-false, ltb-false}
use Rattle.omega_text.specs.Limits.{most_number}
use Rattle.omega_arrays.specs.Arrays.{GameArrays, node_count, start_at}
use Rattle.omega_arrays.specs.Shape.{IsGameShape, entry, first_above, first_fall, miscounted, wrong_entry, wrong_length, wrong_start}
use Rattle.omega_arrays.proofs.Firsts.{fails_at, range_fails_at}

-- the first of two is nothing if both are
both_none : {A : Type 0} (one other : Option A) → option_or one other ≡ None → (one ≡ None) × (other ≡ None)
both_none None other e = (refl, e)
both_none (Some x) other e = cc

-- something under a test that is nothing
if_none : {A : Type 0} (b : Bool) (x : A) → cond b None (Some x) ≡ None → b ≡ true
if_none true x e = refl
if_none false x e = cc

unless_none : {A : Type 0} (b : Bool) (x : A) → cond b (Some x) None ≡ None → b ≡ false
unless_none true x e = cc
unless_none false x e = refl

map_none : {A B : Type 0} (f : A → B) (x : Option A) → option_map f x ≡ None → x ≡ None
map_none f None e = refl
map_none f (Some x) e = cc

positive : (n : ℕ) → (n ≡ 0 → ⊥) → 0 < n
positive zero h = absurd (h refl)
positive (suc n) h = omega arith

-- a count that is as it is to be
counted : (array count wanted : ℕ) → miscounted array count wanted ≡ None → count ≡ wanted
counted array count wanted e = eqb-true count wanted (if_none _ _ e)

-- no entry is over the limit
none_above : (array most : ℕ) (entries : List ℕ) → first_above array most entries ≡ None → All (λ x. x ≤ most) entries
none_above array most entries e k d h =
    ltb-false most (get_or entries k d) (fails_at (λ x. nat_lt most x) entries k d (map_none (entry array) _ e) h)

-- entries below a number
below_count : (count : ℕ) (entries : List ℕ) → 0 < count → All (λ x. x ≤ count - 1) entries → All (λ x. x < count) entries
below_count count entries some all k d h = let most : get_or entries k d ≤ count - 1 = all k d h in omega arith

-- each start is greater than the one before
rises_at : (a : GameArrays) → first_fall a ≡ None → (v : ℕ) → v < node_count a → start_at a v < start_at a (v + 1)
rises_at a none v h =
    leb-false (start_at a (v + 1)) (start_at a v)
    (range_fails_at (λ v. nat_le (start_at a (v + 1)) (start_at a v)) (node_count a) v none h)

-- arrays without a wrong entry have the shape
pub shape_of : (a : GameArrays) → wrong_entry a ≡ None → IsGameShape a
shape_of a none =
    let one = both_none (wrong_length a) _ none in
    let two = both_none (first_above 0 most_number a.priorities) _ one.1 in
    let three = both_none (first_above 1 1 a.owners) _ two.1 in
    let four = both_none (wrong_start a) _ three.1 in
    let lengths = both_none (cond (eqb (node_count a) 0) (Some (entry 0 0)) None) _ one.0 in
    let counts = both_none (miscounted 1 (length a.owners) (node_count a)) _ lengths.1 in
    let starts = both_none (cond (eqb (start_at a 0) 0) None (Some (entry 2 0))) _ four.0 in
    let rest = both_none (option_map (λ v. entry 2 (v + 1)) (first_fall a)) _ starts.1 in
    let some : 0 < node_count a = positive (node_count a) (eqb-false (node_count a) 0 (unless_none _ _ lengths.0)) in
    record {
      inhabited = some;
      owned = counted 1 (length a.owners) (node_count a) counts.0;
      started = counted 2 (length a.starts) (node_count a + 1) counts.1;
      priorities = none_above 0 most_number a.priorities two.0;
      owners = none_above 1 1 a.owners three.0;
      first = eqb-true (start_at a 0) 0 (if_none _ _ starts.0);
      rising = rises_at a (map_none (λ v. entry 2 (v + 1)) (first_fall a) rest.0);
      last = eqb-true (start_at a (node_count a)) (length a.successors) (if_none _ _ rest.1);
      places = below_count (node_count a) a.successors some (none_above 3 (node_count a - 1) a.successors four.1);
    }
