-- The limits of expressions, in numbers.
use Rattle.std.specs.Prelude.{ℕ, suc}

-- the greatest depth of an expression
abbrev pub most_depth : ℕ
most_depth = 256

-- just past the greatest depth: what is deeper counts as this deep
abbrev pub past_depth : ℕ
past_depth = suc most_depth

-- the most tree nodes of one expanded label or alias definition
abbrev pub most_size : ℕ
most_size = 65536

-- just past the greatest size: what is larger counts as this large
abbrev pub past_size : ℕ
past_size = suc most_size

-- the most propositions that a label may mention if it is judged whether it can be true
abbrev pub most_mentioned : ℕ
most_mentioned = 12

-- the most sets of a generalized Büchi kind
abbrev pub most_buchi_sets : ℕ
most_buchi_sets = 16
