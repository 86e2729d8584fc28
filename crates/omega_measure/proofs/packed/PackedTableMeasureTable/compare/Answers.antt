-- The order of the front of the words is that of the measures.
use Rattle.std.proofs.Common.{length, ap, sym, subst, ◌∙◌, arith}
use Rattle.omega_measure.specs.private.layout.Field.{IsInside, front_order}
use Rattle.omega_lift_rows.specs.Rows.{row_of}
use Rattle.omega_measure.proofs.PackedCalls.{in_packed, inside_by, kept_within, packed_compare_is, packed_fits}
use Rattle.omega_measure.proofs.packed.PackedTableMeasureTable.compare.Goals as goal

pub compare_at-requires-clause-first : goal.compare_at-requires-clause-first
compare_at-requires-clause-first c =
    let s = c.self.inside in
    let within = in_packed s.shape s.fields.items s.size s.words.items c.self.invariant c.args.self.now c.self.view_is c.args.a c.requires.first in
    omega (arith, packed_fits s.shape s.fields.items s.size s.words.items c.self.invariant c.args.a within, ap length c.deref.ensures.value)

pub compare_at-requires-clause-second : goal.compare_at-requires-clause-second
compare_at-requires-clause-second c =
    let s = c.self.inside in
    let within = in_packed s.shape s.fields.items s.size s.words.items c.self.invariant c.args.self.now c.self.view_is c.args.b c.requires.second in
    omega (arith, packed_fits s.shape s.fields.items s.size s.words.items c.self.invariant c.args.b within, ap length c.deref.ensures.value)

pub compare_at-requires-clause-field : goal.compare_at-requires-clause-field
compare_at-requires-clause-field c =
    let s = c.self.inside in
    let l = kept_within s.shape s.fields.items s.size s.words.items c.self.invariant c.args.p c.kept_from.result c.kept_from.ensures in
    subst (IsInside s.size) (sym c.index-field.ensures) (inside_by s.size s.fields.items c.index-field.result.now c.kept_from.result c.self.invariant.fields_are l)

pub returns : goal.returns
returns c =
    let s = c.self.inside in
    let a_in = in_packed s.shape s.fields.items s.size s.words.items c.self.invariant c.args.self.now c.self.view_is c.args.a c.requires.first in
    let b_in = in_packed s.shape s.fields.items s.size s.words.items c.self.invariant c.args.self.now c.self.view_is c.args.b c.requires.second in
    let order = rw c.deref.ensures.value at c.compare_at.ensures in
    packed_compare_is s.shape s.fields.items s.size s.words.items c.self.invariant c.args.self.now c.self.view_is c.args.a c.args.b c.args.p c.kept_from.result c.index-field.result.now c.compare_at.result a_in b_in c.kept_from.ensures
    (order ∙ ap (λ field. front_order field.word field.shift (row_of s.size s.words.items c.args.a) (row_of s.size s.words.items c.args.b)) c.index-field.ensures)
