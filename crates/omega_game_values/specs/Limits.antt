-- The limits of games, in numbers.
use Rattle.std.specs.Prelude.{ℕ}

-- the most nodes of a game
abbrev pub most_nodes : ℕ
most_nodes = 1048576

-- the most successors that a game lists, repeats counted
abbrev pub most_successors : ℕ
most_successors = 8388608
