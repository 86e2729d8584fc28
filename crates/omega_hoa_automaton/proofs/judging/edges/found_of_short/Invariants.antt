-- What holds in the loop of `found_of_short`: it is found of the edges so far.
use Rattle.std.proofs.Common.{take}
use Rattle.omega_hoa_automaton.specs.private.layout.Body.{IsFoundOfShort}
use Rattle.omega_hoa_automaton.proofs.judging.edges.found_of_short.Given as goal

abbrev pub invariant-loop-edge : goal.invariant-loop-edge
invariant-loop-edge l = IsFoundOfShort l.counts (take l.edge-index l.edges) l.found
