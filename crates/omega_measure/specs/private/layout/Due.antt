-- Whether a measure does not suffice, from how it compares.
use Rattle.std.specs.Prelude.{Bool, true, false, ◌&&◌, not}
use Rattle.std.specs.declared.cmp.Ordering.{Ordering}
use Rattle.std.specs.declared.cmp.Ordering.TheVariants.{Equal, Greater, Less}

-- whether a measure does not suffice towards another: it is less on the entries that count, or it is equal on them, not
-- top, and must be above the other
abbrev pub is_short : Ordering → Bool → Bool → Bool
is_short Less top strict = true
is_short Equal top strict = strict && not top
is_short Greater top strict = false
