-- One operator that binds has taken its last operand.
use Rattle.std.proofs.Common.{Some}
use Rattle.omega_ltl_text.specs.private.Reader.{reader_of}
use Rattle.omega_ltl_text.proofs.Reductions.{comes_further, popped_rest}
use Rattle.omega_ltl_text.proofs.reducing.reduce.Goals as goal

pub loop-last-preserved : goal.loop-last-preserved
loop-last-preserved c =
    comes_further c.args.least (reader_of c.args.table.now c.args.pending.now.items (Some c.args.operand)) c.loop-last.table c.join.new.table
    c.loop-last.pending.items c.pop.new.self.items c.in-Some.last c.loop-last.tree c.in_ok-tree.tree c.loop-last.invariant
    (popped_rest c.loop-last.pending.items c.as_slice.result.now c.pop.new.self.items c.in-Some.ensures.last.0 c.in-Some.last c.loop-last.pending.len
    c.in-Some.ensures.last.1 c.as_slice.ensures.value c.as_slice.ensures.len c.pop.ensures.rest)
    c.in-Some.ensures.binds c.in_ok-tree.ensures.adds c.in_ok-tree.ensures.names
