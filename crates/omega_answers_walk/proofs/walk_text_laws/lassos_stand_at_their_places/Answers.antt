-- The law by its lemma.
use Rattle.omega_answers_walk.proofs.Covers.{same_length}
use Rattle.omega_answers_walk.proofs.walk_text_laws.lassos_stand_at_their_places.Goals as goal

pub returns : goal.returns
returns c = same_length
