-- Few nodes never stack up past their count.
use Rattle.std.proofs.Common.{arith}
use Rattle.omega_hoa_satisfiable.proofs.WordLemmas.{peak-short}
use Rattle.omega_hoa_satisfiable.proofs.satisfying.word_of.Goals as goal

pub word_within-requires-clause-enough : goal.word_within-requires-clause-enough
word_within-requires-clause-enough c = omega (arith, peak-short 0 c.args.nodes.now, c.if-nodes-le-MOST_IN_PLACE.true)
