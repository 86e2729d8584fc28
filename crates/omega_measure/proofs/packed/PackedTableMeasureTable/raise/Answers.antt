-- The row that is written is the allowance.
use Rattle.std.proofs.Common.{length, subst, ap, arith}
use Rattle.std.proofs.lemmas.List.{with_items_is}
use Rattle.omega_measure.specs.private.layout.Packed.{packed_content}
use Rattle.omega_measure.specs.Table.{Raises}
use Rattle.omega_measure.proofs.PackedCalls.{ArePackedRows-raised, Raises-packed, in_packed, packed_fits}
use Rattle.omega_measure.proofs.packed.PackedTableMeasureTable.raise.Goals as goal

pub entries_kept-kept-requires : goal.entries_kept-kept-requires
entries_kept-kept-requires c =
    let s = c.self.inside in
    in_packed s.shape s.fields.items s.size s.words.items c.self.invariant c.args.self.now c.self.view_is c.args.v c.requires.lifted

pub is_strict-strict-requires : goal.is_strict-strict-requires
is_strict-strict-requires c =
    let s = c.self.inside in
    in_packed s.shape s.fields.items s.size s.words.items c.self.invariant c.args.self.now c.self.view_is c.args.v c.requires.lifted

pub raise_at-requires-clause-lifted : goal.raise_at-requires-clause-lifted
raise_at-requires-clause-lifted c =
    let s = c.self.inside in
    let within = in_packed s.shape s.fields.items s.size s.words.items c.self.invariant c.args.self.now c.self.view_is c.args.v c.requires.lifted in
    omega (arith, packed_fits s.shape s.fields.items s.size s.words.items c.self.invariant c.args.v within, ap length c.deref_mut.ensures.value)

pub raise_at-requires-clause-towards : goal.raise_at-requires-clause-towards
raise_at-requires-clause-towards c =
    let s = c.self.inside in
    let within = in_packed s.shape s.fields.items s.size s.words.items c.self.invariant c.args.self.now c.self.view_is c.args.w c.requires.towards in
    omega (arith, packed_fits s.shape s.fields.items s.size s.words.items c.self.invariant c.args.w within, ap length c.deref_mut.ensures.value)

pub raise_at-requires-clause-packed : goal.raise_at-requires-clause-packed
raise_at-requires-clause-packed c =
    let s = c.self.inside in
    let within = in_packed s.shape s.fields.items s.size s.words.items c.self.invariant c.args.self.now c.self.view_is c.args.w c.requires.towards in
    rw (c.deref.ensures.value, c.deref_mut.ensures.value) (c.self.invariant.packed c.args.w within)

pub invariant_of-self : goal.invariant_of-self
invariant_of-self c =
    let s = c.self.inside in
    let v_in = in_packed s.shape s.fields.items s.size s.words.items c.self.invariant c.args.self.now c.self.view_is c.args.v c.requires.lifted in
    let w_in = in_packed s.shape s.fields.items s.size s.words.items c.self.invariant c.args.self.now c.self.view_is c.args.w c.requires.towards in
    let others = rw c.deref_mut.ensures.value at c.raise_at.ensures.others in
    let allowance = rw (c.deref.ensures.value, c.deref_mut.ensures.value) at c.raise_at.ensures.allowance in
    rw (with_items_is s.words c.raise_at.new.words (omega (arith, others.count, s.words.ok.0)))
    (ArePackedRows-raised c.allowances_are_least_sufficient.ensures s.shape s.fields.items s.size s.words.items c.raise_at.new.words c.entries_kept-kept.result c.args.v c.args.w c.is_strict-strict.result
    c.self.invariant v_in w_in c.entries_kept-kept.ensures c.is_strict-strict.ensures others allowance.packed allowance.allowance)

pub returns : goal.returns
returns c =
    let s = c.self.inside in
    let v_in = in_packed s.shape s.fields.items s.size s.words.items c.self.invariant c.args.self.now c.self.view_is c.args.v c.requires.lifted in
    let w_in = in_packed s.shape s.fields.items s.size s.words.items c.self.invariant c.args.self.now c.self.view_is c.args.w c.requires.towards in
    let others = rw c.deref_mut.ensures.value at c.raise_at.ensures.others in
    let allowance = rw (c.deref.ensures.value, c.deref_mut.ensures.value) at c.raise_at.ensures.allowance in
    rw (with_items_is s.words c.raise_at.new.words (omega (arith, others.count, s.words.ok.0)))
    (subst (λ old. Raises old c.args.v c.args.w (packed_content s.shape s.fields.items s.size c.raise_at.new.words)) c.self.view_is
    (Raises-packed c.allowances_are_least_sufficient.ensures s.shape s.fields.items s.size s.words.items c.raise_at.new.words c.entries_kept-kept.result c.args.v c.args.w c.is_strict-strict.result
    c.self.invariant v_in w_in c.entries_kept-kept.ensures c.is_strict-strict.ensures others allowance.packed allowance.allowance))
