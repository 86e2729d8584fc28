-- The last field is in the last word.
use Rattle.std.proofs.Common.{◌+◌, ap}
use Rattle.omega_measure.proofs.Packing.{last_field-at}
use Rattle.omega_measure.proofs.packed.row_size.Goals as goal

pub returns : goal.returns
returns c = ap (λ field. field.word + 1) (last_field-at c.args.fields.now (record { word = 0; shift = 0; bits = 0; limit = 0 }) c.requires)
