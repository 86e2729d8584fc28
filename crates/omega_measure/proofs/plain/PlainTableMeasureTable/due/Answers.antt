-- A measure is short exactly if the allowance exceeds it.
use Rattle.std.proofs.Common.{true, length, get_or, ap, ◌∙◌, arith}
use Rattle.std.proofs.lemmas.List.{get_or_default}
use Rattle.omega_measure.proofs.PlainCalls.{compare_is, due_iff, in_table}
use Rattle.omega_measure.proofs.plain.PlainTableMeasureTable.due.Goals as goal

pub entries_kept-kept-requires : goal.entries_kept-kept-requires
entries_kept-kept-requires c =
    let s = c.self.inside in
    in_table s.shape s.tops.items s.entries.items c.args.self.now c.self.view_is c.args.v c.requires.lifted

pub compare_at-order-requires-clause-first : goal.compare_at-order-requires-clause-first
compare_at-order-requires-clause-first c =
    let s = c.self.inside in
    omega (arith, in_table s.shape s.tops.items s.entries.items c.args.self.now c.self.view_is c.args.v c.requires.lifted, c.self.invariant.flags, ap length c.deref.ensures.value)

pub compare_at-order-requires-clause-second : goal.compare_at-order-requires-clause-second
compare_at-order-requires-clause-second c =
    let s = c.self.inside in
    omega (arith, in_table s.shape s.tops.items s.entries.items c.args.self.now c.self.view_is c.args.w c.requires.towards, c.self.invariant.flags, ap length c.deref.ensures.value)

pub index-requires : goal.index-requires
index-requires c =
    let s = c.self.inside in
    omega (arith, in_table s.shape s.tops.items s.entries.items c.args.self.now c.self.view_is c.args.v c.requires.lifted, c.self.invariant.flags, s.tops.ok.0)

pub is_strict-requires : goal.is_strict-requires
is_strict-requires c =
    let s = c.self.inside in
    in_table s.shape s.tops.items s.entries.items c.args.self.now c.self.view_is c.args.v c.requires.lifted

pub returns : goal.returns
returns c =
    let s = c.self.inside in
    let v_in = in_table s.shape s.tops.items s.entries.items c.args.self.now c.self.view_is c.args.v c.requires.lifted in
    let w_in = in_table s.shape s.tops.items s.entries.items c.args.self.now c.self.view_is c.args.w c.requires.towards in
    let order =
    compare_is s.shape s.tops.items s.entries.items c.args.self.now c.self.view_is c.args.v c.args.w (get_or s.shape.priorities c.args.v 0) c.width-width.result c.entries_kept-kept.result c.deref.result.now c.deref-2.result.now c.compare_at-order.result
    v_in w_in c.width-width.ensures.width c.entries_kept-kept.ensures c.deref.ensures.value c.deref-2.ensures.value c.compare_at-order.ensures in
    let top = c.index.ensures ∙ get_or_default s.tops.items c.args.v c.index.result.now true (omega (arith, v_in, c.self.invariant.flags)) in
    due_iff s.shape s.tops.items s.entries.items c.args.self.now c.self.view_is c.allowances_are_least_sufficient.ensures c.allowances_exceed.ensures c.self.invariant
    c.args.v c.args.w c.compare_at-order.result c.index.result.now c.is_strict.result c.is_short.result v_in w_in order top c.is_strict.ensures c.is_short.ensures
