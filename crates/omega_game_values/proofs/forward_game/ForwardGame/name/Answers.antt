-- `ForwardGame::name`: the name of the node at a place, without its quotes.
use Rattle.omega_game_values.proofs.layout.Columns.{name_is}
use Rattle.omega_game_values.proofs.forward_game.ForwardGame.name.Goals as goal

pub returns : goal.returns
returns c = name_is _ _ c.args.place _ c.self.view_is c.requires c.name_at.ensures
