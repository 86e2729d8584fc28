-- The limits of automata, in numbers.
use Rattle.std.specs.Prelude.{ℕ}

-- the most names of letters
abbrev pub most_names : ℕ
most_names = 16

-- the most names of the letters of an automaton that is made deterministic
abbrev pub most_leaf_names : ℕ
most_leaf_names = 12

-- the most sets of edges that a run is to take again and again
abbrev pub most_sets : ℕ
most_sets = 64

-- the most states of a deterministic automaton
abbrev pub most_states : ℕ
most_states = 65536

-- the most words of the letters of all edges
abbrev pub most_words : ℕ
most_words = 67108864
