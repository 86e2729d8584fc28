use Rattle.std.proofs.Common.{◌≡◌, ◌∷◌, map}
use Rattle.std.specs.Prelude.{decimal}
use Rattle.std.specs.List.{range_with_len}
use Rattle.omega_circuit.specs.Symbols.{kind_letter}
use Rattle.omega_circuit_automaton.proofs.names.default_names.Given as goal

abbrev pub invariant-loop-position : goal.invariant-loop-position
invariant-loop-position l = l.names.items ≡ map (λ position. kind_letter l.kind ∷ decimal position) (range_with_len 0 l.position)
