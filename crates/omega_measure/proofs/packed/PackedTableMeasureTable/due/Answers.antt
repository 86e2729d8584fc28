-- A measure is short exactly if the allowance exceeds it.
use Rattle.std.proofs.Common.{length, get_or, ap, sym, subst, ◌∙◌, arith}
use Rattle.omega_measure.specs.private.layout.Field.{IsInside, front_order}
use Rattle.omega_lift_rows.specs.Rows.{row_of}
use Rattle.omega_measure.proofs.PackedCalls.{in_packed, inside_by, kept_within, packed_compare_is, packed_due_iff, packed_fits, packed_top_iff}
use Rattle.omega_measure.proofs.packed.PackedTableMeasureTable.due.Goals as goal

pub entries_kept-requires : goal.entries_kept-requires
entries_kept-requires c =
    let s = c.self.inside in
    in_packed s.shape s.fields.items s.size s.words.items c.self.invariant c.args.self.now c.self.view_is c.args.v c.requires.lifted

pub compare_at-order-requires-clause-first : goal.compare_at-order-requires-clause-first
compare_at-order-requires-clause-first c =
    let s = c.self.inside in
    let within = in_packed s.shape s.fields.items s.size s.words.items c.self.invariant c.args.self.now c.self.view_is c.args.v c.requires.lifted in
    omega (arith, packed_fits s.shape s.fields.items s.size s.words.items c.self.invariant c.args.v within, ap length c.deref.ensures.value)

pub compare_at-order-requires-clause-second : goal.compare_at-order-requires-clause-second
compare_at-order-requires-clause-second c =
    let s = c.self.inside in
    let within = in_packed s.shape s.fields.items s.size s.words.items c.self.invariant c.args.self.now c.self.view_is c.args.w c.requires.towards in
    omega (arith, packed_fits s.shape s.fields.items s.size s.words.items c.self.invariant c.args.w within, ap length c.deref.ensures.value)

pub compare_at-order-requires-clause-field : goal.compare_at-order-requires-clause-field
compare_at-order-requires-clause-field c =
    let s = c.self.inside in
    let l = kept_within s.shape s.fields.items s.size s.words.items c.self.invariant (get_or s.shape.priorities c.args.v 0) c.entries_kept.result c.entries_kept.ensures in
    subst (IsInside s.size) (sym c.index-field.ensures) (inside_by s.size s.fields.items c.index-field.result.now c.entries_kept.result c.self.invariant.fields_are l)

pub is_top_at-top-requires-clause-row : goal.is_top_at-top-requires-clause-row
is_top_at-top-requires-clause-row c =
    let s = c.self.inside in
    let within = in_packed s.shape s.fields.items s.size s.words.items c.self.invariant c.args.self.now c.self.view_is c.args.v c.requires.lifted in
    omega (arith, packed_fits s.shape s.fields.items s.size s.words.items c.self.invariant c.args.v within, ap length c.deref-2.ensures.value)

pub is_strict-requires : goal.is_strict-requires
is_strict-requires c =
    let s = c.self.inside in
    in_packed s.shape s.fields.items s.size s.words.items c.self.invariant c.args.self.now c.self.view_is c.args.v c.requires.lifted

pub returns : goal.returns
returns c =
    let s = c.self.inside in
    let v_in = in_packed s.shape s.fields.items s.size s.words.items c.self.invariant c.args.self.now c.self.view_is c.args.v c.requires.lifted in
    let w_in = in_packed s.shape s.fields.items s.size s.words.items c.self.invariant c.args.self.now c.self.view_is c.args.w c.requires.towards in
    let front = rw c.deref.ensures.value at c.compare_at-order.ensures in
    let order =
    packed_compare_is s.shape s.fields.items s.size s.words.items c.self.invariant c.args.self.now c.self.view_is c.args.v c.args.w (get_or s.shape.priorities c.args.v 0) c.entries_kept.result c.index-field.result.now c.compare_at-order.result v_in w_in c.entries_kept.ensures
    (front ∙ ap (λ field. front_order field.word field.shift (row_of s.size s.words.items c.args.v) (row_of s.size s.words.items c.args.w)) c.index-field.ensures) in
    let flag = rw (c.deref-2.ensures.value, c.deref-3.ensures.value) at c.is_top_at-top.ensures in
    let top = packed_top_iff s.shape s.fields.items s.size s.words.items c.self.invariant c.args.self.now c.self.view_is c.args.v c.is_top_at-top.result v_in flag in
    packed_due_iff s.shape s.fields.items s.size s.words.items c.self.invariant c.args.self.now c.self.view_is c.allowances_are_least_sufficient.ensures c.allowances_exceed.ensures
    c.args.v c.args.w c.compare_at-order.result c.is_top_at-top.result c.is_strict.result c.is_short.result v_in w_in order top c.is_strict.ensures c.is_short.ensures
