-- The canonical text of a game describes it.
use Rattle.omega_pg.proofs.games.RoundTrip.{canonical_read}
use Rattle.omega_pg.proofs.game.laws.canonical_texts_are_read.Goals as goal

pub returns : goal.returns
returns c =
    canonical_read c.tokens_follow.ensures c.ends_are_gaps.ensures c.numbers_are_longest.ensures c.words_are_longest.ensures c.signs_are_longest.ensures c.names_are_longest.ensures
