-- One byte more.
use Rattle.std.proofs.Common.{◌++◌, arith}
use Rattle.omega_aiger.specs.BinaryText.{delta_text}
use Rattle.omega_aiger.proofs.BinaryWritten.{goes_on}
use Rattle.omega_aiger.proofs.binary_writing.write_delta.Goals as goal

pub loop-byte-preserved : goal.loop-byte-preserved
loop-byte-preserved c =
    goes_on c.loop-byte._byte c.loop-byte.rest c.loop-byte.out.items c.push-in-loop-byte.new.self.items (c.args.out.now.items ++ delta_text c.args.delta) c.loop-byte.invariant
    (omega (arith, c.loop-byte-test.true)) c.if-rest-lt128.false c.in_ok-push-2.ensures.items
