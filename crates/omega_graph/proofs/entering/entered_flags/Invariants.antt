-- What holds in the loop of `entered`: a flagged state is entered by one of the edges so far.
use Rattle.omega_graph.specs.private.Judging.{AreEntered}
use Rattle.omega_graph.proofs.entering.entered_flags.Given as goal

abbrev pub invariant-loop-index : goal.invariant-loop-index
invariant-loop-index l = AreEntered l.numbers l.leaves l.enters l.flags.items
