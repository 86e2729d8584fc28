-- The law by its lemma.
use Rattle.omega_pg_lenient.proofs.texts.Bare.{bare_places_kept}
use Rattle.omega_pg_lenient.proofs.laws.bare_texts_keep_places.Goals as goal

pub returns : goal.returns
returns c = bare_places_kept c.plain_texts_keep_places.ensures
