-- What holds in the loop of `found_of_states`: it is found of the states so far.
use Rattle.std.proofs.Common.{take}
use Rattle.omega_hoa_automaton.specs.private.layout.Body.{IsFoundOfStates}
use Rattle.omega_hoa_automaton.proofs.judging.body.found_of_states.Given as goal

abbrev pub invariant-loop-state : goal.invariant-loop-state
invariant-loop-state l = IsFoundOfStates l.counts (take l.state-index l.states) l.found
