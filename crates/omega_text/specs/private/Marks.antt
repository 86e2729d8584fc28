-- The sets of a state or an edge as they are written: which list it is, or none without braces, and how many of them
-- are kept in place.
use Rattle.std.specs.Prelude.{ℕ, ◌≤◌, List, Option, None, Some, take}
use Rattle.omega_text.specs.declared.marks.Written.{Written}
use Rattle.omega_text.specs.declared.marks.Written.TheVariants.{Absent, Short, Long}

-- the sets, wherever they are kept
abbrev pub marks_in : Written → Option (List ℕ)
marks_in Absent = None
marks_in (Short count values) = Some (take count values)
marks_in (Long numbers) = Some numbers.value.items

-- there is room in place for this number
abbrev pub fits_in_place : Written → Type 0
fits_in_place Absent = Unit {0}
fits_in_place (Short count values) = count ≤ 3
fits_in_place (Long numbers) = Unit {0}
