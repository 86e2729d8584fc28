-- A text that describes a game has no refusal.
use Rattle.omega_pg_lenient.proofs.grammar.Exact.{games_apart}
use Rattle.omega_pg_lenient.proofs.laws.lenient_games_are_not_refused.Goals as goal

pub returns : goal.returns
returns c = games_apart c.cuts_are_one.ensures c.texts_have_no_fault.ensures c.games_have_no_fault.ensures
