-- The place has the allowance, and the others their measures.
use Rattle.std.proofs.Common.{true, false, ◌∙◌}
use Rattle.std.proofs.lemmas.List.{get_or_default}
use Rattle.omega_lift_rows.proofs.RowWrites.{WritesMeasure-below, WritesMeasure-top}
use Rattle.omega_lift_rows.proofs.rows.raise_at.Goals as goal

pub returns-then-not-allow_at : goal.returns-then-not-allow_at
returns-then-not-allow_at c =
    WritesMeasure-top c.args.strict c.args.kept c.args.limits.now c.args.tops.now c.args.entries.now c.copy_row.new.entries c.allow_at.new.entries c.args.v c.args.w
    c.requires.cells c.requires.lifted c.requires.below_top (get_or_default c.args.tops.now c.args.w true false c.requires.towards ∙ c.if-tops-w.false) c.copy_row.ensures c.allow_at.ensures.others (c.allow_at.ensures.top c.if-not-allow_at.true)

pub returns-else-not-allow_at : goal.returns-else-not-allow_at
returns-else-not-allow_at c =
    WritesMeasure-below c.args.strict c.args.kept c.args.limits.now c.args.tops.now c.args.entries.now c.copy_row.new.entries c.allow_at.new.entries c.args.v c.args.w
    c.requires.cells c.requires.lifted c.requires.below_top (get_or_default c.args.tops.now c.args.w true false c.requires.towards ∙ c.if-tops-w.false) c.copy_row.ensures c.allow_at.ensures.others (c.allow_at.ensures.below c.if-not-allow_at.false)
