-- A node that belongs to no conjunction ends the loop.
use Rattle.std.proofs.Common.{◌∙◌}
use Rattle.omega_hoa_satisfiable.proofs.LiteralBits.{ends-there}
use Rattle.omega_hoa_satisfiable.proofs.literals.read_literals.Goals as goal

pub returns-in_err-read : goal.returns-in_err-read
returns-in_err-read c =
    c.from_residual.ensures
    ∙ ends-there c.loop-node.read c.args.nodes.now c.loop-node.node-index _ _ _ c.loop-node-test.true c.with_node.ensures c.in_err-read.was c.loop-node.invariant
