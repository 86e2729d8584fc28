-- The flag says whether the measure is top.
use Rattle.std.proofs.Common.{length, ap, arith}
use Rattle.omega_measure.proofs.PackedCalls.{in_packed, packed_fits, packed_top_iff}
use Rattle.omega_measure.proofs.packed.PackedTableMeasureTable.is_top.Goals as goal

pub is_top_at-requires-clause-row : goal.is_top_at-requires-clause-row
is_top_at-requires-clause-row c =
    let s = c.self.inside in
    let within = in_packed s.shape s.fields.items s.size s.words.items c.self.invariant c.args.self.now c.self.view_is c.args.place c.requires in
    omega (arith, packed_fits s.shape s.fields.items s.size s.words.items c.self.invariant c.args.place within, ap length c.deref.ensures.value)

pub returns : goal.returns
returns c =
    let s = c.self.inside in
    let within = in_packed s.shape s.fields.items s.size s.words.items c.self.invariant c.args.self.now c.self.view_is c.args.place c.requires in
    let flag = rw (c.deref.ensures.value, c.deref-2.ensures.value) at c.is_top_at.ensures in
    packed_top_iff s.shape s.fields.items s.size s.words.items c.self.invariant c.args.self.now c.self.view_is c.args.place c.is_top_at.result within flag
