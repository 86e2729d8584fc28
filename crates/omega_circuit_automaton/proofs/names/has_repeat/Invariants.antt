use Rattle.std.proofs.Common.{◌≡◌, drop}
use Rattle.std.specs.Str.{bytes_eq}
use Rattle.omega_hoa_automaton.specs.Automaton.{has_repeat}
use Rattle.omega_circuit_automaton.proofs.names.has_repeat.Given as goal

-- what is left decides
abbrev pub invariant-loop-at : goal.invariant-loop-at
invariant-loop-at l = has_repeat bytes_eq (drop l.at l.names) ≡ has_repeat bytes_eq l.names
