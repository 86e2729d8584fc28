-- A formula is within the limit.
use Rattle.std.proofs.Common.{ap, arith}
use Rattle.omega_hoa_acceptance.specs.Acceptance.{acc_depth}
use Rattle.omega_hoa_acceptance.proofs.formula.Acc.shape.Goals as goal

pub returns-clause-shallow : goal.returns-clause-shallow
returns-clause-shallow c = omega (arith, ap acc_depth c.self.view_is, c.self.invariant.depth_is, c.self.invariant.shallow)
