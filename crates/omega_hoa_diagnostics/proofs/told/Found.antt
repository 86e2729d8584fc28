-- Where an element passes a test, something is found.
use Rattle.std.proofs.Common.{◌≡◌, Bool, true, false, ◌||◌, cond, inl, inr, Option, Some, None, is_some, List, [], ◌∷◌, refl}
use Rattle.std.specs.List.{AllByRecursion, find, list_any}
use Rattle.std.specs.Option.{option_map, option_or}
use Rattle.std.proofs.lemmas.Bool.{or_cases}
use Rattle.omega_hoa_diagnostics.specs.Finding.{first_found}

pub or_left : {Y : Type 0} (a b : Option Y) → is_some a ≡ true → is_some (option_or a b) ≡ true
or_left None b some = absurd (cc)
or_left (Some y) b some = refl

pub or_right : {Y : Type 0} (a b : Option Y) → is_some b ≡ true → is_some (option_or a b) ≡ true
or_right None b some = some
or_right (Some y) b some = refl

pub map_some : {X Y : Type 0} (f : X → Y) (o : Option X) → is_some o ≡ true → is_some (option_map f o) ≡ true
map_some f None some = absurd (cc)
map_some f (Some x) some = refl

-- an element that passes a test is found
pub find_some : {X : Type 0} (test : X → Bool) (xs : List X) → list_any test xs ≡ true → is_some (find test xs) ≡ true
find_some test [] some = absurd (cc)
find_some test (x ∷ xs) some = by_test (test x) (find_some test xs) some
  where
    by_test : (b : Bool) → (list_any test xs ≡ true → is_some (find test xs) ≡ true) → (b || list_any test xs) ≡ true
        → is_some (cond b (Some x) (find test xs)) ≡ true
    by_test true later h = refl
    by_test false later h = later h

-- something is found in an element that passes a test
pub found_some : {X Y : Type 0} (Valid : X → Type 0) (test : X → Bool) (finds : X → Option Y) (xs : List X)
    → ((x : X) → Valid x → test x ≡ true → is_some (finds x) ≡ true) → AllByRecursion Valid xs → list_any test xs ≡ true
    → is_some (first_found finds xs) ≡ true
found_some Valid test finds [] one valid some = absurd (cc)
found_some Valid test finds (x ∷ xs) one valid some =
    elim (or_cases (test x) (list_any test xs) some) [
      | inl here ↦ or_left (finds x) (first_found finds xs) (one x valid.0 here)
      | inr later ↦ or_right (finds x) (first_found finds xs) (found_some Valid test finds xs one valid.1 later)
    ]

-- anything holds of each element in this sense
pub all_valid : {X : Type 0} (xs : List X) → AllByRecursion (λ (x : X). Unit {0}) xs
all_valid [] = tt
all_valid (x ∷ xs) = (tt, all_valid xs)
