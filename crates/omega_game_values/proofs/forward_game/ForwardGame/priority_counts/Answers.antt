-- `ForwardGame::priority_counts`: each priority in use, the greatest first, with the number of nodes that have it.
use Rattle.std.proofs.Common.{ap, sym, ◌∙◌}
use Rattle.omega_game_values.specs.Bound.{priority_counts}
use Rattle.omega_game_values.specs.Game.{priorities}
use Rattle.omega_game_values.proofs.layout.Columns.{priorities-nodes_of}
use Rattle.omega_game_values.proofs.forward_game.ForwardGame.priority_counts.Goals as goal

pub returns : goal.returns
returns c =
    c.as_slice.ensures.value ∙ c.self.invariant.counted
    ∙ ap priority_counts (sym (priorities-nodes_of _ c.self.invariant.even) ∙ ap priorities c.self.view_is)
