-- One number more.
use Rattle.std.proofs.Common.{refl}
use Rattle.omega_circuit.proofs.Reordering.{next_number}
use Rattle.omega_circuit.proofs.canonical.first_numbers.Goals as goal

pub loop-number-preserved : goal.loop-number-preserved
loop-number-preserved c = record {
  order = next_number c.loop-number.numbers.keys c.insert.new.self.keys c.loop-number.number c.loop-number.number c.loop-number.invariant.order refl c.in_ok-insert.ensures.keys;
  apart = c.insert.ensures.unique;
}
