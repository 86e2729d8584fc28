-- Only the row of the place is written.
use Rattle.std.proofs.Common.{◌+◌, ◌-◌, ◌*◌, length, drop, arith}
use Rattle.std.proofs.lemmas.List.{length-take, length-drop}
use Rattle.omega_lift_rows.proofs.RowWrites.{WritesRow-put}
use Rattle.omega_lift_rows.proofs.rows.allow_at.Goals as goal

pub returns-clause-others : goal.returns-clause-others
returns-clause-others c =
    let width = length c.args.limits.now in
    let start = c.args.place * width in
    let size = start + width - start in
    let kept = c.allow_row.auto.row in
    WritesRow-put width c.args.entries.now c.args.place size c.allow_row.new.row (omega arith)
    (omega (arith, kept, length-take size (drop start c.args.entries.now), length-drop start c.args.entries.now, c.requires.row)) c.requires.row
