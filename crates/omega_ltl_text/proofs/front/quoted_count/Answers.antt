-- One byte more.
use Rattle.omega_ltl_text.proofs.Quotables.{quoted_step}
use Rattle.omega_ltl_text.proofs.front.quoted_count.Goals as goal

pub loop-index-preserved : goal.loop-index-preserved
loop-index-preserved c =
    quoted_step c.args.bytes.now c.loop-index.index c.loop-index.escaped c.is_sign-closes.result c.is_sign-next.result c.loop-index-test.true c.is_sign-closes.ensures
    c.if-closes.false c.is_sign-next.ensures c.loop-index.invariant
