-- The law by its lemma.
use Rattle.omega_answers_walk.proofs.Written.{walks_read}
use Rattle.omega_answers_walk.proofs.walk_text_laws.written_walks_are_read.Goals as goal

pub returns : goal.returns
returns c = walks_read c.spaced_lassos_are_read.ensures c.lassos_stand_at_their_places.ensures
