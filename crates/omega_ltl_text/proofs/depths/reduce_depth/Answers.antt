-- One operator that binds has taken its last operand, until none is left.
use Rattle.std.proofs.Common.{reverse}
use Rattle.omega_ltl_text.specs.private.Measuring.{reduced_depth}
use Rattle.omega_ltl_text.proofs.Measuring.{depth_further}
use Rattle.omega_ltl_text.proofs.Reductions.{popped_rest}
use Rattle.omega_ltl_text.proofs.depths.reduce_depth.Goals as goal

pub loop-last-preserved : goal.loop-last-preserved
loop-last-preserved c =
    depth_further c.args.least c.loop-last.waiting.items c.pop.new.self.items c.in-Some.last c.loop-last.depth c.depth_joined-depth.result
    (reduced_depth c.args.least (reverse c.args.waiting.now.items) c.args.operand)
    (popped_rest c.loop-last.waiting.items c.as_slice.result.now c.pop.new.self.items c.in-Some.ensures.last.0 c.in-Some.last c.loop-last.waiting.len
    c.in-Some.ensures.last.1 c.as_slice.ensures.value c.as_slice.ensures.len c.pop.ensures.rest)
    c.in-Some.ensures.binds c.depth_joined-depth.ensures c.loop-last.invariant
