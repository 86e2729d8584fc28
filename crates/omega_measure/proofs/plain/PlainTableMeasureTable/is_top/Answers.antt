-- The flag says whether the measure is top.
use Rattle.std.proofs.Common.{true, ◌∙◌, arith}
use Rattle.std.proofs.lemmas.List.{get_or_default}
use Rattle.omega_measure.proofs.PlainCalls.{in_table, top_iff}
use Rattle.omega_measure.proofs.plain.PlainTableMeasureTable.is_top.Goals as goal

pub index-requires : goal.index-requires
index-requires c =
    let s = c.self.inside in
    omega (arith, in_table s.shape s.tops.items s.entries.items c.args.self.now c.self.view_is c.args.place c.requires, c.self.invariant.flags, s.tops.ok.0)

pub returns : goal.returns
returns c =
    let s = c.self.inside in
    let within = in_table s.shape s.tops.items s.entries.items c.args.self.now c.self.view_is c.args.place c.requires in
    top_iff s.shape s.tops.items s.entries.items c.args.self.now c.self.view_is c.args.place c.index.result.now within
    (c.index.ensures ∙ get_or_default s.tops.items c.args.place c.index.result.now true (omega (arith, within, c.self.invariant.flags)))
