-- The limits of translations, in numbers.
use Rattle.std.specs.Prelude.{ℕ}

-- the most states
abbrev pub most_states : ℕ
most_states = 1048576

-- the most edges
abbrev pub most_edges : ℕ
most_edges = 8388608

-- the most nodes of a label for each edge that is joined in it: for each of 64 names a literal of two and `&`, and `|`
abbrev pub most_edge_label : ℕ
most_edge_label = 193

-- the most edges whose labels are within the limit of automata in any case: 16,777,216 nodes in all
abbrev pub most_labelled_edges : ℕ
most_labelled_edges = 86928
