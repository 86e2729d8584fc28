-- Nodes without successors, and what is read in their place.
use Rattle.std.specs.Prelude.{ℕ, List, [], ◌∷◌}
use Rattle.omega_game_values.specs.declared.node_spec.NodeSpec.{NodeSpec}
use Rattle.omega_game_values.specs.declared.player.Player.{Player}
use Rattle.omega_game_values.specs.declared.player.Player.TheVariants.{One, Zero}

-- the priority of a completed dead end, which loses for its owner
abbrev pub losing_priority : Player → ℕ
losing_priority Zero = 1
losing_priority One = 0

-- a dead end that is completed: it is its only successor, with the priority that loses for its owner
abbrev pub closed_in_itself : NodeSpec → NodeSpec
closed_in_itself spec =
    record spec { priority = losing_priority spec.owner; successors = spec.id ∷ [] }

-- a specification with these successors, completed if there are none
abbrev pub completed_by : List ℕ → NodeSpec → NodeSpec
completed_by [] spec = closed_in_itself spec
completed_by (first ∷ others) spec = spec

-- a specification, completed if it has no successors
abbrev pub completed : NodeSpec → NodeSpec
completed spec = completed_by spec.successors spec
