-- A label is not too deep.
use Rattle.std.proofs.Common.{ap, arith}
use Rattle.omega_hoa_label.specs.Label.{label_depth}
use Rattle.omega_hoa_label.proofs.label.Label.keeps_limits.Goals as goal

pub returns : goal.returns
returns c = omega (arith, ap label_depth c.self.view_is, c.self.invariant.shallow)
