-- The order of the front of the words is that of the measures, on the entries that count at a place.
use Rattle.std.proofs.Common.{◌≡◌, length, get_or, ap, sym, subst, ◌∙◌, arith}
use Rattle.std.specs.Prelude.{slice_index}
use Rattle.omega_lift_laws.specs.Allowance.{measure_at}
use Rattle.omega_lift_laws.specs.Measure.{compare_from}
use Rattle.omega_measure.specs.private.layout.Field.{IsInside, front_order}
use Rattle.omega_lift_rows.specs.Rows.{row_of}
use Rattle.omega_measure.proofs.PackedCalls.{in_packed, inside_by, kept_within, packed_compare_is, packed_fits}
use Rattle.omega_measure.proofs.packed.PackedTableMeasureTable.compare_for.Goals as goal

pub entries_kept-requires : goal.entries_kept-requires
entries_kept-requires c =
    let s = c.self.inside in
    in_packed s.shape s.fields.items s.size s.words.items c.self.invariant c.args.self.now c.self.view_is c.args.place c.requires.at

pub compare_at-requires-clause-first : goal.compare_at-requires-clause-first
compare_at-requires-clause-first c =
    let s = c.self.inside in
    let within = in_packed s.shape s.fields.items s.size s.words.items c.self.invariant c.args.self.now c.self.view_is c.args.a c.requires.first in
    omega (arith, packed_fits s.shape s.fields.items s.size s.words.items c.self.invariant c.args.a within, ap length c.deref.ensures.value)

pub compare_at-requires-clause-second : goal.compare_at-requires-clause-second
compare_at-requires-clause-second c =
    let s = c.self.inside in
    let within = in_packed s.shape s.fields.items s.size s.words.items c.self.invariant c.args.self.now c.self.view_is c.args.b c.requires.second in
    omega (arith, packed_fits s.shape s.fields.items s.size s.words.items c.self.invariant c.args.b within, ap length c.deref.ensures.value)

pub compare_at-requires-clause-field : goal.compare_at-requires-clause-field
compare_at-requires-clause-field c =
    let s = c.self.inside in
    let l = kept_within s.shape s.fields.items s.size s.words.items c.self.invariant (get_or s.shape.priorities c.args.place 0) c.entries_kept.result c.entries_kept.ensures in
    subst (IsInside s.size) (sym c.index-field.ensures) (inside_by s.size s.fields.items c.index-field.result.now c.entries_kept.result c.self.invariant.fields_are l)

pub returns : goal.returns
returns c =
    let s = c.self.inside in
    let a_in = in_packed s.shape s.fields.items s.size s.words.items c.self.invariant c.args.self.now c.self.view_is c.args.a c.requires.first in
    let b_in = in_packed s.shape s.fields.items s.size s.words.items c.self.invariant c.args.self.now c.self.view_is c.args.b c.requires.second in
    let order = rw c.deref.ensures.value at c.compare_at.ensures in
    let found =
    packed_compare_is s.shape s.fields.items s.size s.words.items c.self.invariant c.args.self.now c.self.view_is c.args.a c.args.b (get_or s.shape.priorities c.args.place 0) c.entries_kept.result c.index-field.result.now c.compare_at.result a_in b_in c.entries_kept.ensures
    (order ∙ ap (λ field. front_order field.word field.shift (row_of s.size s.words.items c.args.a) (row_of s.size s.words.items c.args.b)) c.index-field.ensures) in
    subst (λ table. c.compare_at.result ≡ compare_from c.args.self.now.player c.args.self.now.priorities (slice_index table.priorities c.args.place) (measure_at c.args.self.now.measures c.args.a) (measure_at c.args.self.now.measures c.args.b)) c.self.view_is found
