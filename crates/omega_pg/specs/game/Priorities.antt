-- A game with other priorities.
use Rattle.std.specs.Prelude.{ℕ, List, length, map, slice_index}
use Rattle.std.specs.List.{range_with_len}
use Rattle.omega_game_values.specs.Game.{Node, node_at}
use Rattle.omega_game_values.specs.declared.node_spec.NodeSpec.{NodeSpec}

-- the game with these priorities by place, and with all else as it was
abbrev pub with_priorities : List Node → List ℕ → List Node
with_priorities nodes priorities =
    map (λ v. record (node_at nodes v) { priority = slice_index priorities v })
    (range_with_len 0 (length nodes))

-- the specification with another priority
abbrev pub with_priority : ℕ → NodeSpec → NodeSpec
with_priority priority spec = record spec { priority = priority }
