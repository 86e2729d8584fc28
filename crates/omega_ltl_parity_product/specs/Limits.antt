-- The limits of products, in numbers.
use Rattle.std.specs.Prelude.{ℕ}

-- the most colours of all leaves together
abbrev pub most_colours : ℕ
most_colours = 60
