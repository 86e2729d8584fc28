-- `tell_names`: the line for one more name comes after those before it.
use Rattle.std.proofs.Common.{arith}
use Rattle.omega_run.proofs.NameLines.{lines_more}
use Rattle.omega_run.proofs.ProgressLines.{on_and_on}
use Rattle.omega_run.proofs.formulas.tell_names.Goals as goal

pub loop-name-preserved : goal.loop-name-preserved
loop-name-preserved g c =
    rw (lines_more c.args.names.now c.loop-name.name-index c.name-item.result (omega (arith, c.loop-name-test.true)) c.name-item.is)
    (on_and_on _ _ _ _ _ _ _ _ _ c.loop-name.invariant c.tell_name.ensures)
