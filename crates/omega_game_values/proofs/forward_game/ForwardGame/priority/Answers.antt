-- `ForwardGame::priority`: the priority of the node at a place.
use Rattle.std.proofs.Common.{arith}
use Rattle.omega_game_values.proofs.layout.Columns.{place_within, priority_is}
use Rattle.omega_game_values.proofs.forward_game.ForwardGame.priority.Goals as goal

pub index-requires : goal.index-requires
index-requires c = omega (arith, place_within _ _ c.args.place c.self.view_is c.requires, c.self.invariant.even.priorities_even)

pub returns : goal.returns
returns c = priority_is _ _ c.args.place c.index.result.now c.self.invariant.even c.self.view_is c.requires c.index.ensures
