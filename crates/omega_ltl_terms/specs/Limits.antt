-- The limits of terms and sets, in numbers.
use Rattle.std.specs.Prelude.{ℕ}

-- the most terms of a demand or of a state
abbrev pub most_terms : ℕ
most_terms = 4096

-- the most sets
abbrev pub most_sets : ℕ
most_sets = 64
