-- A run of a command on texts that are in memory.
use Rattle.std.specs.Prelude.{◌⊎◌, ◌++◌, Bool, true, false, List, Option, None, Some, Result, Err, ℕ}
use Rattle.omega_text.specs.declared.refusal.Refusal.{Refusal}
use Rattle.omega_answers_game.specs.declared.solve.searching.Searching.{Searching}
use Rattle.omega_answers_game.specs.solve.SearchLines.{search_lines}
use Rattle.omega_cli_command.specs.declared.command.Command.{Command}
use Rattle.omega_cli_command.specs.declared.command.Command.TheVariants.{FormulaJudge, TwoTexts}
use Rattle.omega_cli_command.specs.declared.task.Task.{Task}
use Rattle.omega_io.specs.declared.exit.Exit.{Exit}
use Rattle.omega_io.specs.declared.failure.Failure.{Failure}
use Rattle.omega_io.specs.declared.refused.Refused.{Refused}
use Rattle.omega_io.specs.declared.refused.Which.{Which}
use Rattle.omega_io.specs.Lines.{lines_in, stream_lines}
use Rattle.omega_io.specs.RefusalLine.{line_of}
use Rattle.omega_run.specs.Answers.{IsAnswer, Texts}
use Rattle.omega_run.specs.Causes.{IsCauseTold}
use Rattle.omega_run.specs.Lenient.{AreReadAs, AreUnread}
use Rattle.omega_run.specs.Progress.{AreProgressLines}
use Rattle.omega_run.specs.Results.{plain, text_in}
use Rattle.omega_run.specs.Searching.{AreTurnsFor}
use Rattle.omega_run.specs.Report.{ReportsCause}
use Rattle.omega_run.specs.FormulaJudge.{judged_name}
use Rattle.omega_run.specs.TwoTexts.{name_of}
use Rattle.omega_run.specs.World.{KeepsOutput, Written, write_failure}
use Rattle.omega_run.specs.AnswerWriting.{IsWritten}

-- the lines for the refusal of a text: one line, and with `--verbose` a second one, which names it, if it is one of two
abbrev pub text_lines : (verbose : Bool) → Command → Which → Refusal → List ℕ
text_lines true (TwoTexts two from) which refusal = lines_in (name_of two which) refusal
text_lines true (FormulaJudge asked from partition) which refusal =
    lines_in (judged_name asked which) refusal
text_lines verbose command which refusal = line_of refusal

-- the lines for a refusal that is about this text, or about none: with `--verbose` a refusal about none has a second
-- line only if a stream failed, with this failure
abbrev pub lines_about : (verbose : Bool) → Failure → Command → Option Which → Refusal → List ℕ
lines_about verbose failure command None refusal = stream_lines verbose failure refusal
lines_about verbose failure command (Some which) refusal = text_lines verbose command which refusal

-- this outcome of the command on these texts, which are written so and read as these, was reported
abbrev pub IsReportedSo : Task → Command → (written read : Texts) → Failure → Result Exit Refused
    → ℕ → (List ℕ → Type 0) → Type 0
IsReportedSo task command written read failure outcome status tells =
    ReportsCause (lines_about task.verbose failure command (text_in outcome))
    (IsCauseTold task.verbose task.by_text command written read (text_in outcome)) (plain outcome)
    status tells

-- the command made its answer to the texts that are read, with this progress and this search; it was written, and what
-- came of that was reported: the lines of the progress, those on the search and those of a refusal are one text
pub record IsAnswered (task : Task) (command : Command) (written read : Texts) (status : ℕ)
    (tells : List ℕ → Type 0) (before after : Written) : Type 0 where
  pub made : Result (Exit × List ℕ) Refused
  pub answer : IsAnswer command task.budget read made
  pub lines : List ℕ
  pub progress : AreProgressLines task.progress command task.budget read made lines
  pub left : Searching
  pub searched : AreTurnsFor command made left
  pub outcome : Result Exit Refused
  pub written_so : IsWritten made outcome before after
  pub reported : IsReportedSo task command written read (write_failure after) outcome status
      (λ text. tells ((lines ++ search_lines task.verbose left) ++ text))

-- the texts are read as they are; or leniently, as strict texts, if there are such
abbrev pub IsReadSo : (lenient : Bool) → Task → Command → Texts → ℕ → (List ℕ → Type 0)
    → (before after : Written) → Type 0
IsReadSo false task command written status tells before after =
    IsAnswered task command written written status tells before after
IsReadSo true task command written status tells before after =
    ((read : Texts) × AreReadAs command written read
    × IsAnswered task command written read status tells before after)
    ⊎ ((refused : Refused) × AreUnread command written refused
    × IsReportedSo task command written written (write_failure after) (Err refused) status tells
    × KeepsOutput before after)
