-- Rows of zeros are the measures of a new table.
use Rattle.std.proofs.Common.{◌*◌, false, length, replicate, ap, ◌∙◌}
use Rattle.omega_measure.specs.Table.{zero_content}
use Rattle.omega_measure.proofs.Contents.{AreRows-zero, content-zero}
use Rattle.omega_measure.proofs.plain.PlainTableMeasureTable.prepare.Goals as goal

pub invariant_of-result : goal.invariant_of-result
invariant_of-result c =
    let shape = c.in_ok-shape.shape in
    let flags = c.in_ok-tops.ensures.items_if_clones_equal (λ y e. e) ∙ ap (λ n. replicate n false) c.len-2.ensures.count in
    let zeros =
    c.in_ok-entries.ensures.items_if_clones_equal (λ y e. e)
    ∙ ap (λ n. replicate (n * c.width.result) 0) c.len.ensures.count ∙ ap (λ n. replicate (length shape.priorities * n) 0) c.width.ensures.width in
    AreRows-zero shape c.in_ok-tops.tops.items c.in_ok-entries.entries.items flags zeros

pub returns-clause-zero : goal.returns-clause-zero
returns-clause-zero c =
    let shape = c.in_ok-shape.shape in
    let flags = c.in_ok-tops.ensures.items_if_clones_equal (λ y e. e) ∙ ap (λ n. replicate n false) c.len-2.ensures.count in
    let zeros =
    c.in_ok-entries.ensures.items_if_clones_equal (λ y e. e)
    ∙ ap (λ n. replicate (n * c.width.result) 0) c.len.ensures.count ∙ ap (λ n. replicate (length shape.priorities * n) 0) c.width.ensures.width in
    content-zero shape c.in_ok-tops.tops.items c.in_ok-entries.entries.items flags zeros
    ∙ ap (λ setting. zero_content setting.player setting.priorities) c.in_ok-shape.ensures.shape
