-- The specifications of the nodes of a game as arrays.
use Rattle.std.specs.Prelude.{ℕ, List, None, map, slice_index}
use Rattle.std.specs.List.{range_with_len}
use Rattle.omega_game_values.specs.declared.node_spec.NodeSpec.{NodeSpec}
use Rattle.omega_arrays.specs.Arrays.{GameArrays, listed_at, player_of}

-- the specification of the node at a place, with these successors
abbrev pub spec_with : GameArrays → ℕ → List ℕ → NodeSpec
spec_with a v listed = record {
  id = v;
  priority = slice_index a.priorities v;
  owner = player_of (slice_index a.owners v);
  successors = listed;
  name = None;
}

-- the specification of the node at a place
abbrev pub spec_of : GameArrays → ℕ → NodeSpec
spec_of a v = spec_with a v (listed_at a v)

-- the specifications of the nodes below a place
abbrev pub specs_below : GameArrays → ℕ → List NodeSpec
specs_below a v = map (spec_of a) (range_with_len 0 v)
