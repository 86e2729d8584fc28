use Rattle.std.proofs.Common.{◌≡◌, ◌-◌, drop, length}
use Rattle.omega_circuit_automaton.specs.Names.{first_names}
use Rattle.omega_circuit_automaton.proofs.names.names_of.Given as goal

-- the names by the last symbols
abbrev pub invariant-loop-at : goal.invariant-loop-at
invariant-loop-at l = l.names.items ≡ first_names l.kind l.count (drop (length l.symbols - l.at) l.symbols)
