use Rattle.std.proofs.Common.{length}
use Rattle.std.specs.Prelude.{sum_by}
use Rattle.omega_circuit_automaton.specs.private.Cuts.{AddsValuations, weight}
use Rattle.omega_circuit_automaton.specs.private.Written.{IsSplitting}
use Rattle.omega_circuit_automaton.proofs.splitting.edges_of.Given as goal

-- edges and cubes that are left
abbrev pub invariant-loop-cube : goal.invariant-loop-cube
invariant-loop-cube l = record {
  splitting : IsSplitting l.circuit l.exploration.valuations.all.items l.latches l.splitting.pending.items l.splitting.edges;
  adds : AddsValuations (length l.circuit.latches) l.fn.exploration.valuations.all.items l.exploration.valuations.all.items;
}

abbrev pub decreases-loop-cube : goal.decreases-loop-cube
decreases-loop-cube l = sum_by weight l.splitting.pending.items
