-- The mask leaves the bits of the field.
use Rattle.std.proofs.Common.{◌/◌, ◌^◌, get_or, arith}
use Rattle.omega_measure.proofs.Packing.{masked}
use Rattle.omega_measure.proofs.words.digit.Goals as goal

pub returns : goal.returns
returns c = masked (get_or c.args.row.now c.args.field.word 0 / 2 ^ c.args.field.shift) c.args.field.bits (omega (arith, c.requires.few))
