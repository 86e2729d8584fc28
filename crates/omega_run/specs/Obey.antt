-- What the program leaves when it obeys a command line: its status, and what it read and wrote.
use Rattle.std.specs.Prelude.{◌≡◌, ◌+◌, ◌⊎◌, ◌||◌, Bool, true, false, List, ℕ}
use Rattle.std.specs.Prelude.{Option, Some, None, Result, Ok, Err, string_bytes, take}
use Rattle.std.specs.Io.KnownBytes.{Appends}
use Rattle.omega_text.specs.Limits.{most_text}
use Rattle.omega_text.specs.declared.refusal.Refusal.{Refusal}
use Rattle.omega_text.specs.declared.refusal.Refusal.TheVariants.{Io}
use Rattle.omega_cli_command.specs.Formats.{for_automata, for_circuits}
use Rattle.omega_cli_command.specs.declared.command.Command.{Command}
use Rattle.omega_cli_command.specs.declared.command.Command.TheVariants.{Formulas, Stream}
use Rattle.omega_cli_command.specs.declared.format.Format.TheVariants.{Aiger, Hoa, Pg}
use Rattle.omega_cli_command.specs.declared.request.Request.{Request}
use Rattle.omega_cli_command.specs.declared.request.Request.TheVariants.{Do, Fault, Help}
use Rattle.omega_cli_command.specs.declared.task.Task.{Task}
use Rattle.omega_io.specs.declared.exit.Exit.{Exit}
use Rattle.omega_io.specs.declared.exit.Exit.TheVariants.{Done}
use Rattle.omega_io.specs.declared.unread.Unread.{Unread}
use Rattle.omega_io.specs.Exit.{fault_status}
use Rattle.omega_io.specs.Failures.{IsTransferRefusal, failures_in}
use Rattle.omega_io.specs.Reading.{IsRead}
use Rattle.omega_io.specs.Writing.{WritesBeginning}
use Rattle.omega_run.specs.Answers.{both_texts}
use Rattle.omega_run.specs.Files.{ReadsFiles, RefusesFiles, lines_of_file, operand_text, other_text}
use Rattle.omega_run.specs.Formats.{IsFormatOf}
use Rattle.omega_run.specs.FormulaRun.{AreAsked}
use Rattle.omega_run.specs.Held.{IsReadSo}
use Rattle.omega_run.specs.Pieces.{IsRunOnStream}
use Rattle.omega_run.specs.Report.{Reports, ReportsBy}
use Rattle.omega_run.specs.World.{KeepsInput, KeepsOutput, Streams, World, Written}

-- a file was refused, and the lines for that were written; nothing else was read or written
pub record IsFileRefused (task : Task) (status : ℕ) (world : World) : Type 0 where
  pub name : List ℕ
  pub unread : Unread
  pub refused : RefusesFiles world.reads world.refuses task name unread
  pub reported : ReportsBy (lines_of_file task.verbose name unread.reason) (Err unread.refusal)
      status world.tells
  pub kept : world.after ≡ world.before

-- ---- the texts

-- the command of a task for this text: if the text tells the format, that for automata where it is one of automata, and
-- that for circuits where it is one of a circuit
abbrev pub IsCommandFor : Task → (by_text : Bool) → (text : List ℕ) → Command → Type 0
IsCommandFor task false text command = command ≡ task.command
IsCommandFor task true text command = (IsFormatOf text Pg × (command ≡ task.command))
    ⊎ ((IsFormatOf text Hoa × (command ≡ for_automata task.command))
    ⊎ (IsFormatOf text Aiger × (command ≡ for_circuits task.command)))

-- the command for the format of the input's text was done with these texts in memory
abbrev pub IsDoneForFormat : Task → (other input : List ℕ) → ℕ → (List ℕ → Type 0)
    → (before after : Written) → Type 0
IsDoneForFormat task other input status tells before after = (command : Command)
    × IsCommandFor task task.by_text input command
    × IsReadSo task.lenient task command (both_texts other input) status tells before after

-- the task of this command was done with these texts in memory: formulas are asked of the text as it is
abbrev pub IsDoneBy : Command → Task → (other input : List ℕ) → ℕ → (List ℕ → Type 0)
    → (before after : Written) → Type 0
IsDoneBy (Formulas asked formulas) task other input status tells before after =
    AreAsked task.verbose asked formulas.items input status tells before after
IsDoneBy command task other input status tells before after =
    IsDoneForFormat task other input status tells before after

-- the task was done with these texts in memory
abbrev pub IsDoneWithTexts : Task → (other input : List ℕ) → ℕ → (List ℕ → Type 0)
    → (before after : Written) → Type 0
IsDoneWithTexts task = IsDoneBy task.command task

-- nothing was written before this refusal of the input; one read failed if it is for that, and else none
pub record IsUnanswered (refusal : Refusal) (before after : Streams) : Type 0 where
  pub transfer : IsTransferRefusal refusal
  pub kept : KeepsOutput before.written after.written
  pub reads : after.failed ≡ before.failed + failures_in refusal

-- the input was read as a text, to its end or past the limit, and the task was done with that; or memory was wanting or
-- a read failed, and the lines for that were written
abbrev pub IsDoneWithInput : Task → (other : List ℕ) → ℕ → (List ℕ → Type 0)
    → Streams → Streams → Type 0
IsDoneWithInput task other status tells before after =
    ((input : List ℕ) × IsRead before.unread after.unread input × (after.failed ≡ before.failed)
    × IsDoneWithTexts task other input status tells before.written after.written)
    ⊎ ((refusal : Refusal) × IsUnanswered refusal before after
    × Reports task.verbose after (Err refusal) status tells)

-- the task was done with the input: a stream is answered while it is read, unless it has to be in memory, for the cause
-- of a refusal, for a strict text in its place, or for its format
abbrev pub IsDoneFromInput : Task → Command → (held : Bool) → (other : List ℕ) → ℕ
    → (List ℕ → Type 0) → Streams → Streams → Type 0
IsDoneFromInput task (Stream stream) false other status tells before after =
    (outcome : Result Exit Refusal) × IsRunOnStream stream task.budget outcome before after
    × Reports false after outcome status tells
IsDoneFromInput task command held other status tells before after =
    IsDoneWithInput task other status tells before after

-- the task was done with the text of the operand, if that is a file, or with that of the command line, up to the first
-- byte past the limit; or with standard input, which is else left alone
abbrev pub IsDoneFrom : Option (List ℕ) → Task → (other : List ℕ) → ℕ → (List ℕ → Type 0)
    → Streams → Streams → Type 0
IsDoneFrom (Some operand) task other status tells before after =
    IsDoneWithTexts task other (take (most_text + 1) operand) status tells before.written after.written
    × KeepsInput before after
IsDoneFrom None task other status tells before after = IsDoneFromInput task task.command
    (task.verbose || (task.lenient || task.by_text)) other status tells before after

-- the files of the task were read, and it was done; or one of them was refused
abbrev pub IsDone : Task → ℕ → World → Type 0
IsDone task status world = ((operand other : Option (List ℕ)) × ReadsFiles world.reads task operand other
    × IsDoneFrom (operand_text task.source operand) task (other_text task.command other) status
    world.tells world.before world.after)
    ⊎ IsFileRefused task status world

-- ---- the command line

-- the text was written, or a beginning of it if one write failed
abbrev pub Prints : List ℕ → Result Exit Refusal → (before after : Written) → Type 0
Prints text (Ok exit) before after =
    (exit ≡ Done) × (after.failed ≡ before.failed) × Appends before.held after.held text
Prints text (Err refusal) before after =
    (refusal ≡ Io) × (after.failed ≡ before.failed + 1) × WritesBeginning before.held after.held text

-- the program obeyed the command line, or wrote why it requests nothing that can be done
abbrev pub IsObeyed : Result Request Refusal → ℕ → World → Type 0
IsObeyed (Ok (Do task)) status world = IsDone task status world
IsObeyed (Ok (Help text)) status world = (outcome : Result Exit Refusal)
    × Prints (string_bytes text) outcome world.before.written world.after.written
    × KeepsInput world.before world.after × Reports false world.after outcome status world.tells
IsObeyed (Ok (Fault text)) status world =
    (status ≡ fault_status) × world.tells (string_bytes text) × (world.after ≡ world.before)
IsObeyed (Err refusal) status world = Reports false world.after (Err refusal) status world.tells
    × (world.after ≡ world.before)
