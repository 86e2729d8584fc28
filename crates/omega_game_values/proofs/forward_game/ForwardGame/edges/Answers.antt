-- `ForwardGame::edges`: the number of listed successors, repeats counted.
use Rattle.std.proofs.Common.{ap, sym, ◌∙◌}
use Rattle.omega_game_values.proofs.layout.Columns.{edge_count-nodes_of}
use Rattle.omega_game_values.specs.Game.{successor_count}
use Rattle.omega_game_values.proofs.forward_game.ForwardGame.edges.Goals as goal

pub returns : goal.returns
returns c = c.total.ensures ∙ sym (edge_count-nodes_of _ c.self.invariant.even) ∙ ap successor_count c.self.view_is
