-- The law by its lemma.
use Rattle.omega_pg_lenient.proofs.texts.Plain.{places_kept}
use Rattle.omega_pg_lenient.proofs.laws.plain_texts_keep_places.Goals as goal

pub returns : goal.returns
returns c = places_kept
