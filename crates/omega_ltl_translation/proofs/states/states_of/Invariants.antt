use Rattle.omega_ltl_translation.specs.private.Written.{AreWrittenStates}
use Rattle.omega_ltl_translation.proofs.states.states_of.Given as goal

-- the states so far
abbrev pub invariant-loop-number : goal.invariant-loop-number
invariant-loop-number l = AreWrittenStates l.sets l.edges l.number l.states.items
