-- How the reordered game is built.
use Rattle.std.specs.Prelude.{ℕ, List, None, map, slice_index}
use Rattle.std.specs.List.{range_with_len}
use Rattle.omega_game_values.specs.declared.node_spec.NodeSpec.{NodeSpec}
use Rattle.omega_game_values.specs.Game.{Node, owner_at, priority_at, successors_at}

-- the specification of the node with a position: the position is its identifier, and it has no name
abbrev pub spec_of : List Node → List ℕ → List ℕ → ℕ → NodeSpec
spec_of nodes positions places r =
    let v = slice_index places r in
    record {
      id = r;
      priority = priority_at nodes v;
      owner = owner_at nodes v;
      successors = map (slice_index positions) (successors_at nodes v);
      name = None;
    }

-- the specifications of the nodes with the positions below a number
abbrev pub specs_below : List Node → List ℕ → List ℕ → ℕ → List NodeSpec
specs_below nodes positions places count =
    map (spec_of nodes positions places) (range_with_len 0 count)
