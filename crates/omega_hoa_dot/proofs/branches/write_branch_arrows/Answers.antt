-- `write_branch_arrows`: an arrow more is drawn.
use Rattle.std.proofs.Common.{arith}
use Rattle.omega_hoa_dot.specs.Arrows.{branch_arrow}
use Rattle.omega_text.proofs.Rows.{text_more}
use Rattle.omega_hoa_dot.proofs.branches.write_branch_arrows.Goals as goal

pub loop-target-preserved : goal.loop-target-preserved
loop-target-preserved c =
    text_more (branch_arrow c.args.number c.args.role) c.args.targets.now c.loop-target.target-index 0 c.args.out.now.items c.loop-target.out.items _
    (omega arith) c.loop-target.invariant c.in_ok-write_branch_arrow.ensures.ok
