-- the propositions before say the same
use Rattle.omega_answers_synth.specs.private.Alike.{IsAlikeBelow}
use Rattle.omega_answers_synth.proofs.parting.is_alike.Given as goal

abbrev pub invariant-loop-q : goal.invariant-loop-q
invariant-loop-q l = IsAlikeBelow l.q l.name l.others l.controlled l.also_controlled
