-- `read_forward_game`: what was kept and built is the forward game of the text, or its refusal.
use Rattle.std.proofs.Common.{subst, sym}
use Rattle.omega_pg.proofs.games.Built.{IsGameText-built_all, LeadsTo, read_specified, refused_built_all}
use Rattle.omega_pg.proofs.game.reading.read_forward_game.Goals as goal

pub game_of_specs-requires : goal.game_of_specs-requires
game_of_specs-requires c = read_specified _ _ (subst (LeadsTo c.args.bytes.now) (sym c.reader.view_is) c.in_ok-reader.ensures.read)

pub returns-clause-refused : goal.returns-clause-refused
returns-clause-refused c = refused_built_all _ _ _ (subst (LeadsTo c.args.bytes.now) (sym c.reader.view_is) c.in_ok-reader.ensures.read) c.game_of_specs.ensures.refused

pub returns-clause-game : goal.returns-clause-game
returns-clause-game c =
    IsGameText-built_all _ _ _ (subst (LeadsTo c.args.bytes.now) (sym c.reader.view_is) c.in_ok-reader.ensures.read) c.game_of_specs.ensures.game c.game_of_specs.ensures.limits c.game_of_specs.ensures.faultless
