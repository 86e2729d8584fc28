-- `write_escaped_bytes`: a byte more is written.
use Rattle.std.proofs.Common.{arith}
use Rattle.omega_text.specs.Labels.{escaped_byte}
use Rattle.omega_text.proofs.Rows.{text_more}
use Rattle.omega_text.proofs.labels.write_escaped_bytes.Goals as goal

pub loop-byte-preserved : goal.loop-byte-preserved
loop-byte-preserved c =
    text_more escaped_byte c.args.bytes.now c.loop-byte.byte-index 0 c.args.out.now.items c.loop-byte.out.items _
    (omega arith) c.loop-byte.invariant c.in_ok-write_escaped_byte.ensures.ok
