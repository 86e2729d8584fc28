use Rattle.omega_synth_rounds.specs.private.Naming.{AreStatesBelow}
use Rattle.omega_synth_rounds.proofs.naming.question_states.Given as goal

abbrev pub invariant-loop-state : goal.invariant-loop-state
invariant-loop-state l = AreStatesBelow l.rounds l.states.items l.state
