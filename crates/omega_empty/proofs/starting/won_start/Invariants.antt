-- no start that was passed is won
use Rattle.omega_empty.proofs.walking.Starts.{NoneWon}
use Rattle.omega_empty.proofs.starting.won_start.Given as goal

abbrev pub invariant-loop-start : goal.invariant-loop-start
invariant-loop-start l = NoneWon l.automaton l.game l.won l.start-index
