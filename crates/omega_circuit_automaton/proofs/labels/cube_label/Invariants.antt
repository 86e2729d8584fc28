use Rattle.std.proofs.Common.{take}
use Rattle.omega_circuit_automaton.specs.private.Cuts.{fits}
use Rattle.omega_circuit_automaton.specs.private.Labels.{IsConjunction}
use Rattle.omega_circuit_automaton.proofs.labels.cube_label.Given as goal

-- the literals so far
abbrev pub invariant-loop-k : goal.invariant-loop-k
invariant-loop-k l = IsConjunction (λ letter. fits (take l.k l.cube) letter) l.label
