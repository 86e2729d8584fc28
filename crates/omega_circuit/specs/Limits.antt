-- The limit of circuits, in numbers.
use Rattle.std.specs.Prelude.{ℕ}

-- the greatest variable
abbrev pub most_variables : ℕ
most_variables = 16777216
