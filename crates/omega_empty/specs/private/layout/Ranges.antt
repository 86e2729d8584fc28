-- The edges of a state among all edges: the numbers from a first up to an end.
use Rattle.std.specs.Prelude.{◌≡◌, ℕ, ◌-◌, ◌<◌, ◌≤◌, Bool, List, length, filter, slice_index_or}
use Rattle.std.specs.List.{range_with_len}
use Rattle.omega_hoa_automaton.specs.Automaton.{BodyEdge, Description, edges_of}
use Rattle.omega_empty.specs.EmptinessGame.{is_usable, leaving}
use Rattle.omega_empty.specs.declared.edge_ranges.EdgeRange.{EdgeRange}

-- the range without numbers
abbrev pub no_range : EdgeRange
no_range = record { first = 0; end = 0 }

-- the numbers of the usable ones among the edges of a range
abbrev pub usable_in : List Bool → EdgeRange → List ℕ
usable_in usable range =
    filter (is_usable usable) (range_with_len range.first (range.end - range.first))

-- the range holds the numbers of the edges that leave a state
pub record IsRangeOf (edges : List BodyEdge) (state : ℕ) (range : EdgeRange) : Type 0 where
  pub ordered : range.first ≤ range.end
  pub within : range.end ≤ length edges
  pub exact : (usable : List Bool) → leaving usable state 0 edges ≡ usable_in usable range

-- the range of a state
abbrev pub range_of : List EdgeRange → ℕ → EdgeRange
range_of ranges state = slice_index_or ranges state no_range

-- a range for each state
pub record AreRanges (a : Description) (ranges : List EdgeRange) : Type 0 where
  pub entries : length ranges ≡ a.states
  pub each : (state : ℕ) → state < a.states → IsRangeOf (edges_of a) state (range_of ranges state)
