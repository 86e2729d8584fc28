-- A label more, which is apart from those before.
use Rattle.std.proofs.Common.{arith}
use Rattle.omega_hoa_edges.proofs.Judged.{added_more, added_none}
use Rattle.omega_hoa_edges.proofs.exclusive.count_apart.Goals as goal

pub loop-second-init : goal.loop-second-init
loop-second-init c = (added_none c.args.labels.now c.args.table.now c.requires, λ second below. absurd (omega (arith, below)))

pub add_small-requires : goal.add_small-requires
add_small-requires c = (c.loop-second.invariant.0.any, c.loop-second.invariant.0.tabled)

pub loop-second-preserved : goal.loop-second-preserved
loop-second-preserved c =
    added_more c.args.labels.now c.loop-second.second c.loop-second.table c.add_small.new.table c.index-labels-second.result c.loop-second-test.true c.index-labels-second.is
    c.loop-second.invariant.0 c.loop-second.invariant.1 (c.add_small.ensures c.if-not-add_small.false)

pub returns : goal.returns
returns c = λ second below. c.loop-second.invariant.1 second (omega (arith, below, c.loop-second-test.false))
