-- A byte string: which bytes it is, and how many of them are kept in place.
use Rattle.std.specs.Prelude.{ℕ, ◌≤◌, List, take}
use Rattle.omega_text.specs.declared.byte_string.Held.{Held}
use Rattle.omega_text.specs.declared.byte_string.Held.TheVariants.{Short, Long}

-- the bytes, wherever they are kept
abbrev pub bytes_in : Held → List ℕ
bytes_in (Short count bytes) = take count bytes
bytes_in (Long bytes) = bytes.value.items

-- there is room in place for this number
abbrev pub fits_in_place : Held → Type 0
fits_in_place (Short count bytes) = count ≤ 14
fits_in_place (Long bytes) = Unit {0}
