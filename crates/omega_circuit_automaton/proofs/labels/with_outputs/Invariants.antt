use Rattle.std.proofs.Common.{◌++◌, map, take}
use Rattle.omega_circuit_automaton.specs.private.Cuts.{fits}
use Rattle.omega_circuit_automaton.specs.private.Labels.{IsConjunction}
use Rattle.omega_circuit_automaton.specs.private.Ternary.{known}
use Rattle.omega_circuit_automaton.proofs.labels.with_outputs.Given as goal

-- the literals so far
abbrev pub invariant-loop-k : goal.invariant-loop-k
invariant-loop-k l = IsConjunction (λ letter. fits (l.cube ++ map known (take l.k l.outputs)) letter) l.label
