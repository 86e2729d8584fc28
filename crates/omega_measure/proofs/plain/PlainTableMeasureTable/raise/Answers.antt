-- The row that is written is the allowance.
use Rattle.std.proofs.Common.{length, subst, ap, arith}
use Rattle.std.proofs.lemmas.List.{with_items_is}
use Rattle.omega_measure.specs.private.layout.Plain.{content_of}
use Rattle.omega_measure.specs.Table.{Raises}
use Rattle.omega_measure.proofs.Contents.{AreRows-raised, Raises-raised}
use Rattle.omega_measure.proofs.PlainCalls.{below_top, in_table}
use Rattle.omega_measure.proofs.plain.PlainTableMeasureTable.raise.Goals as goal

pub entries_kept-kept-requires : goal.entries_kept-kept-requires
entries_kept-kept-requires c =
    let s = c.self.inside in
    in_table s.shape s.tops.items s.entries.items c.args.self.now c.self.view_is c.args.v c.requires.lifted

pub is_strict-strict-requires : goal.is_strict-strict-requires
is_strict-strict-requires c =
    let s = c.self.inside in
    in_table s.shape s.tops.items s.entries.items c.args.self.now c.self.view_is c.args.v c.requires.lifted

pub raise_at-requires-clause-lifted : goal.raise_at-requires-clause-lifted
raise_at-requires-clause-lifted c =
    let s = c.self.inside in
    omega (arith, in_table s.shape s.tops.items s.entries.items c.args.self.now c.self.view_is c.args.v c.requires.lifted, c.self.invariant.flags, ap length c.deref_mut.ensures.value)

pub raise_at-requires-clause-towards : goal.raise_at-requires-clause-towards
raise_at-requires-clause-towards c =
    let s = c.self.inside in
    omega (arith, in_table s.shape s.tops.items s.entries.items c.args.self.now c.self.view_is c.args.w c.requires.towards, c.self.invariant.flags, ap length c.deref_mut.ensures.value)

pub raise_at-requires-clause-below_top : goal.raise_at-requires-clause-below_top
raise_at-requires-clause-below_top c =
    let s = c.self.inside in
    let v_in = in_table s.shape s.tops.items s.entries.items c.args.self.now c.self.view_is c.args.v c.requires.lifted in
    rw c.deref_mut.ensures.value (below_top s.shape s.tops.items s.entries.items c.args.self.now c.self.view_is c.args.v c.args.w v_in c.requires.due)

pub invariant_of-self : goal.invariant_of-self
invariant_of-self c =
    let s = c.self.inside in
    let writes = rw (c.deref_mut.ensures.value, c.deref_mut-2.ensures.value) at c.raise_at.ensures in
    let v_in = in_table s.shape s.tops.items s.entries.items c.args.self.now c.self.view_is c.args.v c.requires.lifted in
    let w_in = in_table s.shape s.tops.items s.entries.items c.args.self.now c.self.view_is c.args.w c.requires.towards in
    rw (with_items_is s.tops c.raise_at.new.tops (omega (arith, writes.flags, s.tops.ok.0)), with_items_is s.entries c.raise_at.new.entries (omega (arith, writes.cells, s.entries.ok.0)))
    (AreRows-raised c.allowances_are_least_sufficient.ensures s.shape s.tops.items c.raise_at.new.tops s.entries.items c.raise_at.new.entries c.limits-limits.result.now c.entries_kept-kept.result c.args.v c.args.w c.is_strict-strict.result
    c.self.invariant v_in w_in c.limits-limits.ensures.limits c.entries_kept-kept.ensures c.is_strict-strict.ensures writes)

pub returns : goal.returns
returns c =
    let s = c.self.inside in
    let writes = rw (c.deref_mut.ensures.value, c.deref_mut-2.ensures.value) at c.raise_at.ensures in
    let v_in = in_table s.shape s.tops.items s.entries.items c.args.self.now c.self.view_is c.args.v c.requires.lifted in
    let w_in = in_table s.shape s.tops.items s.entries.items c.args.self.now c.self.view_is c.args.w c.requires.towards in
    rw (with_items_is s.tops c.raise_at.new.tops (omega (arith, writes.flags, s.tops.ok.0)), with_items_is s.entries c.raise_at.new.entries (omega (arith, writes.cells, s.entries.ok.0)))
    (subst (λ old. Raises old c.args.v c.args.w (content_of s.shape c.raise_at.new.tops c.raise_at.new.entries)) c.self.view_is
    (Raises-raised c.allowances_are_least_sufficient.ensures s.shape s.tops.items c.raise_at.new.tops s.entries.items c.raise_at.new.entries c.limits-limits.result.now c.entries_kept-kept.result c.args.v c.args.w c.is_strict-strict.result
    c.self.invariant v_in w_in c.limits-limits.ensures.limits c.entries_kept-kept.ensures c.is_strict-strict.ensures writes))
