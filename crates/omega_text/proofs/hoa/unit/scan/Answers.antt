-- The run over one byte more.
use Rattle.std.proofs.Common.{sym}
use Rattle.omega_text.proofs.hoa_texts.Units.{run_more}
use Rattle.omega_text.proofs.hoa_texts.Within.{next_stays}
use Rattle.omega_text.proofs.hoa.unit.scan.Goals as goal

pub loop-count-preserved : goal.loop-count-preserved
loop-count-preserved c = record {
  reached = run_more c.args.bytes.now c.loop-count.count c.loop-count.mode c.in-Some.next c.loop-count-test.true c.loop-count.invariant.reached (sym c.in-Some.ensures);
  within = next_stays c.loop-count.count c.loop-count.mode _ c.in-Some.next c.loop-count.invariant.within (sym c.in-Some.ensures);
}
