-- the states so far
use Rattle.omega_lang_complement.specs.private.Turned.{AreTurned}
use Rattle.omega_lang_complement.proofs.states.push_turned.Given as goal

abbrev pub invariant-loop-number : goal.invariant-loop-number
invariant-loop-number l = AreTurned l.automaton l.number l.states.items l.lacks
