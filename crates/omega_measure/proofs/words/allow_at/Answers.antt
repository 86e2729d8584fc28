-- Only the row of the place is written.
use Rattle.std.proofs.Common.{◌+◌, ◌-◌, ◌*◌, drop, arith}
use Rattle.std.proofs.lemmas.List.{length-take, length-drop}
use Rattle.omega_lift_rows.proofs.RowWrites.{WritesRow-put}
use Rattle.omega_measure.proofs.words.allow_at.Goals as goal

pub returns-clause-others : goal.returns-clause-others
returns-clause-others c =
    let start = c.args.place * c.args.size in
    let size = start + c.args.size - start in
    let kept = c.allow_words.auto.row in
    WritesRow-put c.args.size c.args.words.now c.args.place size c.allow_words.new.row (omega arith)
    (omega (arith, kept, length-take size (drop start c.args.words.now), length-drop start c.args.words.now, c.requires.row)) c.requires.row
