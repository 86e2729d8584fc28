use Rattle.std.proofs.Common.{◌≡◌, map, take}
use Rattle.omega_circuit_automaton.specs.private.Cuts.{is_true}
use Rattle.omega_circuit_automaton.proofs.ends.letter_of.Given as goal

abbrev pub invariant-loop-value : goal.invariant-loop-value
invariant-loop-value l = l.letter.items ≡ map is_true (take l.value-index l.cube)
