-- the propositions before are listed alike
use Rattle.omega_answers_synth.specs.private.Listed.{AreListedBelow}
use Rattle.omega_answers_synth.proofs.outputs.are_listed_alike.Given as goal

abbrev pub invariant-loop-p : goal.invariant-loop-p
invariant-loop-p l = AreListedBelow l.p l.names l.listed l.outs
