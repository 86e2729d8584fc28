-- The limit of the search, in numbers.
use Rattle.std.specs.Prelude.{ℕ}

-- the most steps that the search visits for a label
abbrev pub most_visited : ℕ
most_visited = 4194304
