-- The limits of automata, in numbers.
use Rattle.std.specs.Prelude.{ℕ}

-- the most propositions
abbrev pub most_propositions : ℕ
most_propositions = 1024

-- the most tree nodes of all expanded labels together
abbrev pub most_total_size : ℕ
most_total_size = 16777216
