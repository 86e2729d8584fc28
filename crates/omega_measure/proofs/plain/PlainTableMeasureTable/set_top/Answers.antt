-- The flag that is set says top.
use Rattle.std.proofs.Common.{◌≡◌, None, true, set, subst, arith}
use Rattle.omega_measure.specs.private.layout.Plain.{content_of}
use Rattle.omega_measure.specs.Table.{with_measure}
use Rattle.omega_measure.proofs.Contents.{AreRows-topped, content-topped}
use Rattle.omega_measure.proofs.PlainCalls.{in_table}
use Rattle.omega_measure.proofs.plain.PlainTableMeasureTable.set_top.Goals as goal

pub index_mut-requires : goal.index_mut-requires
index_mut-requires c =
    let s = c.self.inside in
    omega (arith, in_table s.shape s.tops.items s.entries.items c.args.self.now c.self.view_is c.args.place c.requires, c.self.invariant.flags, s.tops.ok.0)

pub invariant_of-self : goal.invariant_of-self
invariant_of-self c =
    let s = c.self.inside in
    AreRows-topped s.shape s.tops.items s.entries.items c.args.place c.self.invariant
    (in_table s.shape s.tops.items s.entries.items c.args.self.now c.self.view_is c.args.place c.requires)

pub returns : goal.returns
returns c =
    let s = c.self.inside in
    subst (λ table. content_of s.shape (set s.tops.items c.args.place true) s.entries.items ≡ with_measure table c.args.place None) c.self.view_is
    (content-topped s.shape s.tops.items s.entries.items c.args.place c.self.invariant
    (in_table s.shape s.tops.items s.entries.items c.args.self.now c.self.view_is c.args.place c.requires))
