-- The limit of lifts, as a number.
use Rattle.std.specs.Prelude.{ℕ, ◌^◌}

-- the most lifts of one solver, and the greatest budget
abbrev pub most_lifts : ℕ
most_lifts = 2 ^ 40
