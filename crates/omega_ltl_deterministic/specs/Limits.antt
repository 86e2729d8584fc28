-- The limits of candidates, in numbers.
use Rattle.std.specs.Prelude.{ℕ}

-- the most sets of marks, one for each colour
abbrev pub most_parity_sets : ℕ
most_parity_sets = 128

-- the most conjunctions of literals of a label
abbrev pub most_cubes : ℕ
most_cubes = 4096
