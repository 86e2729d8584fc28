-- The row that is written is top.
use Rattle.std.proofs.Common.{◌≡◌, None, length, subst, ap, arith}
use Rattle.std.proofs.lemmas.List.{with_items_is}
use Rattle.omega_measure.specs.private.layout.Packed.{packed_content}
use Rattle.omega_measure.specs.Table.{with_measure}
use Rattle.omega_measure.proofs.PackedCalls.{ArePackedRows-topped, packed_content-topped, in_packed, packed_fits}
use Rattle.omega_measure.proofs.packed.PackedTableMeasureTable.set_top.Goals as goal

pub raise_at-requires-clause-lifted : goal.raise_at-requires-clause-lifted
raise_at-requires-clause-lifted c =
    let s = c.self.inside in
    let within = in_packed s.shape s.fields.items s.size s.words.items c.self.invariant c.args.self.now c.self.view_is c.args.place c.requires in
    omega (arith, packed_fits s.shape s.fields.items s.size s.words.items c.self.invariant c.args.place within, ap length c.deref_mut.ensures.value)

pub raise_at-requires-clause-towards : goal.raise_at-requires-clause-towards
raise_at-requires-clause-towards c =
    let s = c.self.inside in
    let within = in_packed s.shape s.fields.items s.size s.words.items c.self.invariant c.args.self.now c.self.view_is c.args.place c.requires in
    omega (arith, packed_fits s.shape s.fields.items s.size s.words.items c.self.invariant c.args.place within, ap length c.deref_mut.ensures.value)

pub raise_at-requires-clause-packed : goal.raise_at-requires-clause-packed
raise_at-requires-clause-packed c =
    let s = c.self.inside in
    let within = in_packed s.shape s.fields.items s.size s.words.items c.self.invariant c.args.self.now c.self.view_is c.args.place c.requires in
    rw (c.deref.ensures.value, c.deref_mut.ensures.value) (c.self.invariant.packed c.args.place within)

pub invariant_of-self : goal.invariant_of-self
invariant_of-self c =
    let s = c.self.inside in
    let within = in_packed s.shape s.fields.items s.size s.words.items c.self.invariant c.args.self.now c.self.view_is c.args.place c.requires in
    let others = rw c.deref_mut.ensures.value at c.raise_at.ensures.others in
    let holds = rw (c.deref.ensures.value, c.deref_mut.ensures.value) at c.raise_at.ensures.allowance in
    rw (with_items_is s.words c.raise_at.new.words (omega (arith, others.count, s.words.ok.0)))
    (ArePackedRows-topped s.shape s.fields.items s.size s.words.items c.raise_at.new.words c.args.place c.self.invariant within others holds)

pub returns : goal.returns
returns c =
    let s = c.self.inside in
    let within = in_packed s.shape s.fields.items s.size s.words.items c.self.invariant c.args.self.now c.self.view_is c.args.place c.requires in
    let others = rw c.deref_mut.ensures.value at c.raise_at.ensures.others in
    let holds = rw (c.deref.ensures.value, c.deref_mut.ensures.value) at c.raise_at.ensures.allowance in
    rw (with_items_is s.words c.raise_at.new.words (omega (arith, others.count, s.words.ok.0)))
    (subst (λ old. packed_content s.shape s.fields.items s.size c.raise_at.new.words ≡ with_measure old c.args.place None) c.self.view_is
    (packed_content-topped s.shape s.fields.items s.size s.words.items c.raise_at.new.words c.args.place c.self.invariant within others holds))
