-- What holds in the loop of `found_of_full`: it is found of the edges so far.
use Rattle.std.proofs.Common.{take}
use Rattle.omega_hoa_automaton.specs.private.layout.Body.{IsFoundOfEdges}
use Rattle.omega_hoa_automaton.proofs.judging.edges.found_of_full.Given as goal

abbrev pub invariant-loop-edge : goal.invariant-loop-edge
invariant-loop-edge l = IsFoundOfEdges l.counts (take l.edge-index l.edges) l.found
