-- The law by its lemma.
use Rattle.omega_answers_walk.proofs.Explanations.{explanations_read}
use Rattle.omega_answers_walk.proofs.laws.explanations_are_walks.Goals as goal

pub returns : goal.returns
returns c = explanations_read c.written_walks_are_read.ensures
