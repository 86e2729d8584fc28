-- What is found first in a list.
use Rattle.std.specs.Prelude.{ℕ, Bool, nat_le, if◌then◌else◌, Option, Some}
use Rattle.std.specs.Prelude.{None, option_map, unwrap_or, List, [], ◌∷◌, ◌++◌}
use Rattle.std.specs.List.{find, list_any}
use Rattle.std.specs.Option.{option_or}

-- the first thing that is found in an element of a list
abbrev pub first_found : {X Y : Type 0} → (X → Option Y) → List X → Option Y
first_found finds [] = None
first_found finds (x ∷ xs) = option_or (finds x) (first_found finds xs)

-- the first of numbers that is not below a count
abbrev pub first_beyond : ℕ → List ℕ → Option ℕ
first_beyond count numbers = find (nat_le count) numbers

-- the first element of a list that came before: among those before it, or among these
abbrev pub first_repeat : {X : Type 0} → (X → X → Bool) → List X → List X → Option X
first_repeat same before [] = None
first_repeat same before (x ∷ xs) =
    if list_any (same x) before then Some x else first_repeat same (before ++ x ∷ []) xs

-- the line about what was found, or no line
abbrev pub line_about : {X : Type 0} → (X → List ℕ) → Option X → List ℕ
line_about line found = unwrap_or (option_map line found) []
