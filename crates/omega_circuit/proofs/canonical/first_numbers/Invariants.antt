-- the numbers so far, in order
use Rattle.std.proofs.Common.{◌≡◌}
use Rattle.std.specs.Prelude.{nat_eq}
use Rattle.std.specs.List.{IsDistinct, range_with_len}
use Rattle.omega_circuit.proofs.canonical.first_numbers.Given as goal

abbrev pub invariant-loop-number : goal.invariant-loop-number
invariant-loop-number l = record {
  order : l.numbers.keys ≡ range_with_len 0 l.number;
  apart : IsDistinct nat_eq l.numbers.keys;
}
