-- No mark is counted yet.
use Rattle.std.proofs.Common.{arith}
use Rattle.omega_hoa_parity_kind.proofs.PriorityLemmas.{least_mark-le}
use Rattle.omega_hoa_parity_kind.proofs.priorities.least_mark.Goals as goal

pub loop-mark-init : goal.loop-mark-init
loop-mark-init c = record { rest = omega (arith, least_mark-le c.args.count c.args.marks.now); limit = omega arith }
