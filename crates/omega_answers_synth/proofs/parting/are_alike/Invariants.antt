-- the propositions before say the same
use Rattle.omega_answers_synth.specs.private.Alike.{AreAlikeBelow}
use Rattle.omega_answers_synth.proofs.parting.are_alike.Given as goal

abbrev pub invariant-loop-p : goal.invariant-loop-p
invariant-loop-p l = AreAlikeBelow l.p l.ones l.others l.controlled l.also_controlled
