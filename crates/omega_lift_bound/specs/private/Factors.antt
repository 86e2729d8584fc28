-- What a priority in use contributes to the bound.
use Rattle.std.specs.Prelude.{ℕ, ◌+◌, if◌then◌else◌}
use Rattle.omega_game_values.specs.declared.player.Player.{Player}
use Rattle.omega_game_values.specs.declared.priority_counts.PriorityCount.{PriorityCount}
use Rattle.omega_game_values.specs.Player.{loses}

-- one more than the number of nodes that have the priority if it loses for the player, else 1
abbrev pub factor_of : Player → PriorityCount → ℕ
factor_of player count = if loses player count.priority then count.nodes + 1 else 1
