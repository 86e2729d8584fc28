-- Places of numbers in lists of numbers.
use Rattle.std.proofs.Common.{◌≡◌, ◌⊎◌, ℕ, zero, suc, ◌+◌, ◌++◌, ◌<◌, ◌≤◌, Bool, true, false, nat_eq, inl, inr, List, [], ◌∷◌, length, get_or, map, take, Some, None, position, cond, nat_lt, Contains, refl, sym, ap, ◌∙◌, arith, eq-eqb, true≢false}
use Rattle.std.specs.List.{position_or_len}
use Rattle.std.proofs.lemmas.Bool.{cases_lt, eqb-true, lt-ltb}
use Rattle.std.proofs.lemmas.List.{get_or-map, length-map, map-append, take_more}
use Rattle.std.proofs.lemmas.List.Sums.{fails_before_first, passes_at_first, prefix_len-le-length}

-- the place of a number
abbrev pub place_among : List ℕ → ℕ → ℕ
place_among xs x = position_or_len (nat_eq x) xs

-- it is at most the length
pub place_bound : (xs : List ℕ) (x : ℕ) → place_among xs x ≤ length xs
place_bound xs x = prefix_len-le-length _ xs

-- there is the number, if it is in the list
pub place_has : (xs : List ℕ) (x : ℕ) → place_among xs x < length xs → x ≡ get_or xs (place_among xs x) 0
place_has xs x below = eqb-true x (get_or xs (place_among xs x) 0) (passes_at_first (nat_eq x) xs 0 below)

pub place_within : (xs : List ℕ) (x : ℕ) → Contains xs x → place_among xs x < length xs
place_within xs x has = elim (cases_lt (place_among xs x) (length xs)) [
  | inl less ↦ less
  | inr more ↦ absurd (true≢false (sym (eq-eqb x (get_or xs has.0 x) (sym has.2)) ∙ fails_before_first (nat_eq x) xs has.0 x (omega (arith, has.1, more))))
]

-- another number has another place
pub place_one : (xs : List ℕ) (x y : ℕ) → Contains xs x → place_among xs y ≡ place_among xs x → y ≡ x
place_one xs x y has same =
    let below : place_among xs x < length xs = place_within xs x has in
    place_has xs y (omega (arith, below, same)) ∙ ap (λ (k : ℕ). get_or xs k 0) same ∙ sym (place_has xs x below)

-- what a list has, after a function
pub contains_map : {X Y : Type 0} (f : X → Y) (xs : List X) (x : X) → Contains xs x → Contains (map f xs) (f x)
contains_map f xs x has =
    let long = length-map xs f in
    let below : has.0 < length xs = has.1 in
    (has.0, omega (arith, long, below), get_or-map f xs has.0 x (f x) has.1 ∙ ap f has.2)

-- and what it is there the function of
pub record IsImage {X Y : Type 0} (f : X → Y) (xs : List X) (y : Y) : Type 0 where
  pub x : X
  pub has : Contains xs x
  pub is : f x ≡ y

pub contains_from_map : {X Y : Type 0} (f : X → Y) (xs : List X) (y : Y) → Contains (map f xs) y → IsImage f xs y
contains_from_map f [] y has = let below : has.0 < 0 = has.1 in absurd (omega arith)
contains_from_map f (x ∷ xs) y (zero, below, is) = record { x = x; has = (0, omega arith, refl); is = is }
contains_from_map f (x ∷ xs) y (suc k, below, is) =
    let rest : IsImage f xs y = contains_from_map f xs y (k, omega (arith, below), is) in
    record { x = rest.x; has = (suc rest.has.0, omega (arith, rest.has.1), rest.has.2); is = rest.is }

-- a number that has no place has the length
pub none_is_len : {X : Type 0} (p : X → Bool) (xs : List X) → position p xs ≡ None → length xs ≡ position_or_len p xs
none_is_len p xs none = go (cases_lt (position_or_len p xs) (length xs))
  where
    never : (b : Bool) → b ≡ true → cond b (Some (position_or_len p xs)) None ≡ None → ⊥
    never true e is = some is
      where
        some : Some (position_or_len p xs) ≡ None → ⊥
        some is = cc
    never false e is = true≢false (sym e)

    go : (position_or_len p xs < length xs) ⊎ (length xs ≤ position_or_len p xs) → length xs ≡ position_or_len p xs
    go (inl below) = absurd (never (nat_lt (position_or_len p xs) (length xs)) (lt-ltb (position_or_len p xs) (length xs) below) none)
    go (inr past) =
        let bound : position_or_len p xs ≤ length xs = prefix_len-le-length _ xs in
        omega (arith, past, bound)

-- the results for the items so far, with one more
pub mapped_more : {X Y : Type 0} (f : X → Y) (xs : List X) (i : ℕ) (d : X) (ys : List Y) (y : Y) → i < length xs → ys ≡ map f (take i xs) → y ≡ f (get_or xs i d)
    → ys ++ y ∷ [] ≡ map f (take (i + 1) xs)
mapped_more {X = X} {Y = Y} f xs i d ys y below so_far is =
    ap (λ (list : List Y). list ++ y ∷ []) so_far ∙ ap (λ (z : Y). map f (take i xs) ++ z ∷ []) is
    ∙ sym (map-append f (take i xs) (get_or xs i d ∷ [])) ∙ ap (map f) (sym (take_more xs i d below))
