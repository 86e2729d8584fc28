-- How the arrays of a deterministic automaton are read.
use Rattle.std.specs.Prelude.{ℕ, ◌-◌, ◌/◌, ◌^◌, zero, suc, List, length, min, option_map, slice_get}
use Rattle.std.specs.Prelude.{slice_index_or, unwrap_or}
use Rattle.omega_ltl_determinization.specs.Letters.{table_at}
use Rattle.omega_ltl_determinization.specs.declared.deterministic.DeterministicAutomaton.{DeterministicAutomaton}
use Rattle.omega_ltl_determinization.specs.declared.deterministic.DeterministicEdge.{DeterministicEdge}

-- the number that stands for none
abbrev pub none : ℕ
none = 2 ^ 32 - 1

-- the index of the first edge of a state; past the last state that after the last edge
abbrev pub first_edge : DeterministicAutomaton → ℕ → ℕ
first_edge a zero = 0
first_edge a (suc before) = slice_index_or a.ends before (min (length a.edges) none)

-- the target of the edge at an index, or none
abbrev pub target_at : List DeterministicEdge → ℕ → ℕ
target_at edges place = unwrap_or (option_map (λ edge. edge.target) (slice_get edges place)) none

-- the colour of the edge at an index, or none
abbrev pub colour_at : List DeterministicEdge → ℕ → ℕ
colour_at edges place = unwrap_or (option_map (λ edge. edge.colour) (slice_get edges place)) none

-- how many words the letters of an edge take
abbrev pub width_of : DeterministicAutomaton → ℕ
width_of a = length a.letters / length a.edges

-- the letters of the edge at an index, or no words past the last edge
abbrev pub letters_at : DeterministicAutomaton → ℕ → List ℕ
letters_at a edge = table_at (record { width = width_of a; words = a.letters }) edge
