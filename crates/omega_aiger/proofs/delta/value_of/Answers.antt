-- The value stays small.
use Rattle.std.proofs.Common.{arith}
use Rattle.omega_aiger.proofs.Values.{value_small}
use Rattle.omega_aiger.proofs.delta.value_of.Goals as goal

pub overflow_mul-value : goal.overflow_mul-value
overflow_mul-value c =
    let e = value_small c.args.bytes.now c.loop-left.left c.requires in omega (arith, e, c.loop-left.invariant.value)

pub overflow_add-value : goal.overflow_add-value
overflow_add-value c =
    let e = value_small c.args.bytes.now c.loop-left.left c.requires in omega (arith, e, c.loop-left.invariant.value, c.from.ensures)
