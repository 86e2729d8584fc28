-- A text describes at most one game.
use Rattle.omega_pg_lenient.proofs.grammar.Exact.{games_one}
use Rattle.omega_pg_lenient.proofs.laws.lenient_games_are_one.Goals as goal

pub returns : goal.returns
returns c = games_one c.cuts_are_one.ensures c.specifications_have_one_game.ensures
