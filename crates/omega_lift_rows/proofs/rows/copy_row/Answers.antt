-- The row is copied over the other.
use Rattle.std.proofs.Common.{◌+◌, ◌-◌, ◌*◌, arith}
use Rattle.omega_lift_rows.proofs.RowWrites.{WritesRow-copied}
use Rattle.omega_lift_rows.proofs.rows.copy_row.Goals as goal

pub returns : goal.returns
returns g c =
    let start = c.args.from * c.args.width in
    WritesRow-copied c.args.width c.args.entries.now c.copy_within.new.self c.args.from c.args.to (start + c.args.width - start)
    c.copy_within.ensures.after (omega arith) c.requires.source c.requires.target
