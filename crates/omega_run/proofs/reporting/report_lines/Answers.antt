-- `report_lines`: if there is no memory for the lines, the line for that is written.
use Rattle.std.proofs.Common.{◌≡◌, rules}
use Rattle.omega_text.specs.declared.refusal.Refusal.TheVariants.{Memory}
use Rattle.omega_run.proofs.Telling.{memory-line}
use Rattle.omega_run.proofs.reporting.report_lines.Goals as goal

pub returns-in-Err-clause-wanting : goal.returns-in-Err-clause-wanting
returns-in-Err-clause-wanting g c =
    let memory : c.in-Err.wanting ≡ Memory = search rules in
    rw c.in-Err.is (search rules, rw memory-line c.tell-in-Err.ensures)
