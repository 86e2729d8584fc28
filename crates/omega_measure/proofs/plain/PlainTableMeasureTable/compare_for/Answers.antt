-- The order of the rows is that of the measures, on the entries that count at a place.
use Rattle.std.proofs.Common.{◌≡◌, length, subst, get_or, ap, arith}
use Rattle.std.specs.Prelude.{slice_index}
use Rattle.omega_lift_laws.specs.Allowance.{measure_at}
use Rattle.omega_lift_laws.specs.Measure.{compare_from}
use Rattle.omega_measure.proofs.PlainCalls.{compare_is, in_table}
use Rattle.omega_measure.proofs.plain.PlainTableMeasureTable.compare_for.Goals as goal

pub entries_kept-kept-requires : goal.entries_kept-kept-requires
entries_kept-kept-requires c =
    let s = c.self.inside in
    in_table s.shape s.tops.items s.entries.items c.args.self.now c.self.view_is c.args.place c.requires.at

pub compare_at-requires-clause-first : goal.compare_at-requires-clause-first
compare_at-requires-clause-first c =
    let s = c.self.inside in
    omega (arith, in_table s.shape s.tops.items s.entries.items c.args.self.now c.self.view_is c.args.a c.requires.first, c.self.invariant.flags, ap length c.deref.ensures.value)

pub compare_at-requires-clause-second : goal.compare_at-requires-clause-second
compare_at-requires-clause-second c =
    let s = c.self.inside in
    omega (arith, in_table s.shape s.tops.items s.entries.items c.args.self.now c.self.view_is c.args.b c.requires.second, c.self.invariant.flags, ap length c.deref.ensures.value)

pub returns : goal.returns
returns c =
    let s = c.self.inside in
    let found =
    compare_is s.shape s.tops.items s.entries.items c.args.self.now c.self.view_is c.args.a c.args.b (get_or s.shape.priorities c.args.place 0) c.width-width.result c.entries_kept-kept.result c.deref.result.now c.deref-2.result.now c.compare_at.result
    (in_table s.shape s.tops.items s.entries.items c.args.self.now c.self.view_is c.args.a c.requires.first)
    (in_table s.shape s.tops.items s.entries.items c.args.self.now c.self.view_is c.args.b c.requires.second)
    c.width-width.ensures.width c.entries_kept-kept.ensures c.deref.ensures.value c.deref-2.ensures.value c.compare_at.ensures in
    subst (λ table. c.compare_at.result ≡ compare_from c.args.self.now.player c.args.self.now.priorities (slice_index table.priorities c.args.place) (measure_at c.args.self.now.measures c.args.a) (measure_at c.args.self.now.measures c.args.b)) c.self.view_is found
