use Rattle.std.proofs.Common.{◌≡◌, map}
use Rattle.std.specs.List.{range_with_len}
use Rattle.omega_hoa_syntax.specs.declared.header_value.HeaderValue.TheVariants.{Number}
use Rattle.omega_circuit_automaton.proofs.header.controllable_item.Given as goal

abbrev pub invariant-loop-k : goal.invariant-loop-k
invariant-loop-k l = l.values.items ≡ map Number (range_with_len l.first l.k)
