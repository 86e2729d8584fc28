-- The order of the rows is that of the measures.
use Rattle.std.proofs.Common.{length, ap, arith}
use Rattle.omega_measure.proofs.PlainCalls.{compare_is, in_table}
use Rattle.omega_measure.proofs.plain.PlainTableMeasureTable.compare.Goals as goal

pub compare_at-requires-clause-first : goal.compare_at-requires-clause-first
compare_at-requires-clause-first c =
    let s = c.self.inside in
    omega (arith, in_table s.shape s.tops.items s.entries.items c.args.self.now c.self.view_is c.args.a c.requires.first, c.self.invariant.flags, ap length c.deref.ensures.value)

pub compare_at-requires-clause-second : goal.compare_at-requires-clause-second
compare_at-requires-clause-second c =
    let s = c.self.inside in
    omega (arith, in_table s.shape s.tops.items s.entries.items c.args.self.now c.self.view_is c.args.b c.requires.second, c.self.invariant.flags, ap length c.deref.ensures.value)

pub returns : goal.returns
returns c =
    let s = c.self.inside in
    compare_is s.shape s.tops.items s.entries.items c.args.self.now c.self.view_is c.args.a c.args.b c.args.p c.width-width.result c.kept_from-kept.result c.deref.result.now c.deref-2.result.now c.compare_at.result
    (in_table s.shape s.tops.items s.entries.items c.args.self.now c.self.view_is c.args.a c.requires.first)
    (in_table s.shape s.tops.items s.entries.items c.args.self.now c.self.view_is c.args.b c.requires.second)
    c.width-width.ensures.width c.kept_from-kept.ensures c.deref.ensures.value c.deref-2.ensures.value c.compare_at.ensures
