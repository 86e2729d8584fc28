-- One field more that is at its limit.
use Rattle.std.proofs.Common.{◌-◌, suc, length, arith}
use Rattle.omega_measure.proofs.PackedCalls.{full_more, inside_by}
use Rattle.omega_measure.proofs.words.last_below.Goals as goal

pub digit-requires : goal.digit-requires
digit-requires c = inside_by (length c.args.row.now) c.args.fields.now (record { word = 0; shift = 0; bits = 0; limit = 0 }) (c.loop-at.at - 1) c.requires.fields (omega arith)

pub loop-at-preserved : goal.loop-at-preserved
loop-at-preserved c =
    full_more c.args.fields.now c.args.row.now (record { word = 0; shift = 0; bits = 0; limit = 0 }) c.loop-at.at (suc c.args.kept) c.digit.result c.from.result
    (omega arith) (omega arith) c.digit.ensures c.from.ensures c.if-digit-from.false c.loop-at.invariant
