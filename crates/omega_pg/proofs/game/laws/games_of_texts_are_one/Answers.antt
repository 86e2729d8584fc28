-- A text describes at most one game.
use Rattle.omega_pg.proofs.games.Texts.{games_one}
use Rattle.omega_pg.proofs.game.laws.games_of_texts_are_one.Goals as goal

pub returns : goal.returns
returns c = games_one c.cuts_are_one.ensures c.specifications_have_one_game.ensures
