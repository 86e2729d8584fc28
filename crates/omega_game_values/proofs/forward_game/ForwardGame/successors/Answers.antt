-- `ForwardGame::successors`: the places of the successors of the node at a place, in the order listed, repeats kept.
use Rattle.std.proofs.Common.{arith}
use Rattle.omega_game_values.proofs.layout.Columns.{place_within, successors_are}
use Rattle.omega_game_values.proofs.forward_game.ForwardGame.successors.Goals as goal

pub list-requires : goal.list-requires
list-requires c = omega (arith, place_within _ _ c.args.place c.self.view_is c.requires, c.self.invariant.even.successors_even)

pub returns : goal.returns
returns c = successors_are _ _ c.args.place _ c.self.view_is c.requires c.list.ensures
