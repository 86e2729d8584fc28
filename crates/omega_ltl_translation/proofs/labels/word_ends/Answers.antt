use Rattle.omega_ltl_shapes.proofs.BitLemmas.{none_above}
use Rattle.omega_ltl_translation.proofs.labels.word_ends.Goals as goal

pub returns : goal.returns
returns c = λ place high. none_above c.args.word place c.ranges.word.fits high
