-- `write_answer`: what is reported of runs is a text of lines of progress.
use Rattle.std.proofs.Common.{[], refl}
use Rattle.omega_run.specs.Results.{with_bytes}
use Rattle.omega_run.proofs.ProgressLines.{nothing_reported}
use Rattle.omega_solve.specs.budget.Observing.{lifts_between_reports}
use Rattle.omega_run.specs.Answers.{both_texts}
use Rattle.omega_run.proofs.ReportedLines.{command_lines}
use Rattle.omega_run.proofs.writing.write_answer.Goals as goal

pub returns-then-not-task : goal.returns-then-not-task
returns-then-not-task g c = (
  with_bytes (λ made. made.items) c.answer-made.result,
  [],
  c.answer-made.ensures.answer,
  rw c.if-not-task.true refl,
  c.answer-made.ensures.turns,
  c.write_made.ensures,
  nothing_reported _ _,
)

pub returns : goal.returns
returns g c =
    let lines = command_lines g.E.Output.contents g.E.Output.failed lifts_between_reports c.args.task.now.budget c.failures.result c.args.errors.now
    c.answer-made-2.new.observer c.requires.tells c.failures.ensures c.args.command.now (both_texts c.args.texts.other.now c.args.texts.input.now)
    (with_bytes (λ made. made.items) c.answer-made-2.result) c.answer-made-2.ensures.reported in (
      with_bytes (λ made. made.items) c.answer-made-2.result,
      lines.text,
      c.answer-made-2.ensures.answer,
      rw c.if-not-task.false lines.holds,
      c.answer-made-2.ensures.turns,
      c.write_made-2.ensures,
      lines.reported,
    )
