-- `mark`: a number more.
use Rattle.std.proofs.Common.{arith}
use Rattle.omega_hoa_dot.proofs.Marks.{one_marked}
use Rattle.omega_hoa_dot.proofs.role.mark.Goals as goal

pub loop-number-preserved : goal.loop-number-preserved
loop-number-preserved c =
    one_marked c.args.numbers.now c.loop-number.number-index c.args.role c.args.roles.now c.loop-number.roles _ (omega arith) (omega arith)
    c.loop-number.invariant c.mark_one.ensures
