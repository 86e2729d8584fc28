-- The limits of budgets and efforts, in numbers.
use Rattle.std.specs.Prelude.{ℕ, ◌^◌}

-- the greatest budget of a command line
abbrev pub most_budget : ℕ
most_budget = 2 ^ 40

-- the greatest effort of a command line
abbrev pub most_effort : ℕ
most_effort = 1000
