-- Rows of zeros are the measures of a new table.
use Rattle.std.proofs.Common.{◌*◌, ◌+◌, replicate, ap, ◌∙◌}
use Rattle.omega_measure.specs.private.layout.Field.{last_field}
use Rattle.omega_measure.specs.Table.{zero_content}
use Rattle.omega_measure.proofs.PackedCalls.{ArePackedRows-zero, packed_content-zero}
use Rattle.omega_measure.proofs.packed.PackedTableMeasureTable.prepare.Goals as goal

pub invariant_of-result : goal.invariant_of-result
invariant_of-result c =
    let size = c.row_size-size.ensures ∙ ap (λ fields. (last_field fields).word + 1) c.deref.ensures.value in
    let zeros = c.in_ok-words.ensures.items_if_clones_equal (λ y e. e) ∙ ap (λ n. replicate (n * c.row_size-size.result) 0) c.len.ensures.count in
    ArePackedRows-zero c.in_ok-shape.shape c.in_ok-fields.fields.items c.row_size-size.result c.in_ok-words.words.items c.limits.result.now c.in_ok-fields.ensures.packed c.limits.ensures.limits size zeros

pub returns-clause-zero : goal.returns-clause-zero
returns-clause-zero c =
    let size = c.row_size-size.ensures ∙ ap (λ fields. (last_field fields).word + 1) c.deref.ensures.value in
    let zeros = c.in_ok-words.ensures.items_if_clones_equal (λ y e. e) ∙ ap (λ n. replicate (n * c.row_size-size.result) 0) c.len.ensures.count in
    packed_content-zero c.in_ok-shape.shape c.in_ok-fields.fields.items c.row_size-size.result c.in_ok-words.words.items c.limits.result.now c.in_ok-fields.ensures.packed c.limits.ensures.limits size zeros
    ∙ ap (λ setting. zero_content setting.player setting.priorities) c.in_ok-shape.ensures.shape
