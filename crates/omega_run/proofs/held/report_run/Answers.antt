-- `report_run`: the lines of a refusal are written, and that of its cause.
use Rattle.std.proofs.Common.{[], refl}
use Rattle.omega_run.specs.Answers.{both_texts}
use Rattle.omega_run.specs.Causes.{IsCauseTold}
use Rattle.omega_run.specs.Held.{lines_about}
use Rattle.omega_run.specs.World.{tells_of}
use Rattle.omega_run.proofs.ProgressLines.{nothing_reported}
use Rattle.omega_run.proofs.Reported.{reports_cause}
use Rattle.omega_run.proofs.held.report_run.Goals as goal

pub returns-in-Ok : goal.returns-in-Ok
returns-in-Ok g c = rw c.in-Ok.is ([], refl, (c.exit_code.ensures, (nothing_reported _ _).reported))

pub returns-in-Err : goal.returns-in-Err
returns-in-Err g c =
    let refused = c.in-Err.refused in
    rw c.in-Err.is (reports_cause (λ line. line.items) (λ refusal. lines_about c.args.task.now.verbose c.args.failure c.args.held.command.now refused.text refusal)
    refused.refusal c.report_lines.result (tells_of g.E.Output c.args.errors.now c.report_lines.new.errors)
    (IsCauseTold c.args.task.now.verbose c.args.task.now.by_text c.args.held.command.now (both_texts c.args.held.written.other.now c.args.held.written.input.now)
    (both_texts c.args.held.read.other.now c.args.held.read.input.now) refused.text)
    c.cause_about-cause.result.items c.lines_about-lines.result c.cause_about-cause.ensures c.lines_about-lines.ensures.lines
    (rw c.as_slice.ensures.value at c.report_lines.ensures.reported) c.report_lines.ensures.wanting)
