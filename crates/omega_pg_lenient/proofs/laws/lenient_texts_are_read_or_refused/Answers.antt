-- A text describes a game or has a refusal.
use Rattle.omega_pg_lenient.proofs.grammar.Exact.{texts_decided}
use Rattle.omega_pg_lenient.proofs.laws.lenient_texts_are_read_or_refused.Goals as goal

pub returns : goal.returns
returns c = texts_decided c.texts_are_read_or_faulty.ensures c.games_exist.ensures c.games_keep_limits.ensures
