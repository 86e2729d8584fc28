-- `ForwardGame::owner`: the player who chooses the successor at a place.
use Rattle.std.proofs.Common.{arith}
use Rattle.omega_game_values.proofs.layout.Columns.{place_within, owner_is}
use Rattle.omega_game_values.proofs.forward_game.ForwardGame.owner.Goals as goal

pub index-requires : goal.index-requires
index-requires c = omega (arith, place_within _ _ c.args.place c.self.view_is c.requires, c.self.invariant.even.owners_even)

pub returns : goal.returns
returns c = owner_is _ _ c.args.place c.index.result.now c.self.invariant.even c.self.view_is c.requires c.index.ensures
