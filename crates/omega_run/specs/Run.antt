-- A command that is run over an input and an output.
use Rattle.std.specs.Prelude.{◌≡◌, ◌⊎◌, List, Result, Err, ℕ}
use Rattle.omega_text.specs.declared.refusal.Refusal.{Refusal}
use Rattle.omega_cli_command.specs.declared.command.Command.{Command}
use Rattle.omega_cli_command.specs.declared.command.Command.TheVariants.{Stream}
use Rattle.omega_io.specs.declared.exit.Exit.{Exit}
use Rattle.omega_io.specs.declared.refused.Refused.{Refused}
use Rattle.omega_io.specs.Reading.{IsRead}
use Rattle.omega_io.specs.Refused.{about_none}
use Rattle.omega_run.specs.Answers.{IsAnswer, both_texts}
use Rattle.omega_run.specs.AnswerWriting.{IsWritten}
use Rattle.omega_run.specs.Obey.{IsUnanswered}
use Rattle.omega_run.specs.Pieces.{IsRunOnStream}
use Rattle.omega_run.specs.Results.{plain}
use Rattle.omega_run.specs.World.{Streams}

-- the text of the input was read, to its end or past the limit, and what the command makes of it was written
pub record IsReadAndAnswered (command : Command) (budget : ℕ) (other : List ℕ)
    (outcome : Result Exit Refused) (before after : Streams) : Type 0 where
  pub input : List ℕ
  pub read : IsRead before.unread after.unread input
  pub reads : after.failed ≡ before.failed
  pub made : Result (Exit × List ℕ) Refused
  pub answer : IsAnswer command budget (both_texts other input) made
  pub written_so : IsWritten made outcome before.written after.written

-- the command was run with this outcome: a stream is answered while it is read, and any other text after it was read,
-- unless memory was wanting or a read failed
abbrev pub IsRun : Command → (budget : ℕ) → (other : List ℕ) → Result Exit Refused
    → Streams → Streams → Type 0
IsRun (Stream stream) budget other outcome before after =
    IsRunOnStream stream budget (plain outcome) before after
IsRun command budget other outcome before after =
    IsReadAndAnswered command budget other outcome before after
    ⊎ ((refusal : Refusal) × IsUnanswered refusal before after × (outcome ≡ Err (about_none refusal)))
