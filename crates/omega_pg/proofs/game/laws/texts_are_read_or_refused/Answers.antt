-- A text describes a game or has a refusal.
use Rattle.omega_pg.proofs.games.Decided.{texts_decided}
use Rattle.omega_pg.proofs.game.laws.texts_are_read_or_refused.Goals as goal

pub returns : goal.returns
returns c = texts_decided c.texts_are_read_or_faulty.ensures c.games_exist.ensures c.games_keep_limits.ensures
