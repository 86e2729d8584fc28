-- `write_text`: a write goes on with the rest.
use Rattle.std.proofs.Common.{arith}
use Rattle.std.proofs.lemmas.List.{take_rest}
use Rattle.omega_io.proofs.Transfers.{IsWriting-goes_on}
use Rattle.omega_io.proofs.writing.write_text.Goals as goal

pub loop-rest-preserved : goal.loop-rest-preserved
loop-rest-preserved g c = record {
  writing =
      IsWriting-goes_on _ _ _ _ _ _ c.in_ok-count.count c.loop-rest.invariant.writing
      c.in_ok-count.ensures.bound c.in_ok-count.ensures.bytes (take_rest c.loop-rest.rest.now c.in_ok-count.count);
  counted = omega (arith, c.in_ok-count.ensures.counted, c.loop-rest.invariant.counted);
}
