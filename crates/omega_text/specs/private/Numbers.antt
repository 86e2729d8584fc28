-- A short list of numbers: which list it is, and how many of them are kept in place.
use Rattle.std.specs.Prelude.{ℕ, ◌≤◌, List, take}
use Rattle.omega_text.specs.declared.numbers.Held.{Held}
use Rattle.omega_text.specs.declared.numbers.Held.TheVariants.{Short, Long}

-- the numbers, wherever they are kept
abbrev pub numbers_in : Held → List ℕ
numbers_in (Short count values) = take count values
numbers_in (Long numbers) = numbers.value.items

-- there is room in place for this number
abbrev pub fits_in_place : Held → Type 0
fits_in_place (Short count values) = count ≤ 3
fits_in_place (Long numbers) = Unit {0}
