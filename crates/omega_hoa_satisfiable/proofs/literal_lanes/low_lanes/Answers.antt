-- No literal limits a lane at first, and those of one proposition more limit them further.
use Rattle.omega_hoa_satisfiable.proofs.LaneLiterals.{agree-more, agree-none}
use Rattle.omega_hoa_satisfiable.proofs.literal_lanes.low_lanes.Goals as goal

pub loop-p-init : goal.loop-p-init
loop-p-init c = agree-none c.args.literals

pub loop-p-preserved : goal.loop-p-preserved
loop-p-preserved c =
    rw (c.lanes_if-held.ensures, c.lanes_if-unheld.ensures, c.mask.ensures, c.mask-in-loop-p.ensures)
    (agree-more c.args.literals c.loop-p.p c.loop-p.lanes c.loop-p-test.true c.loop-p.invariant)
