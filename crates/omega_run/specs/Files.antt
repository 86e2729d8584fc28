-- The files of a task: how they are read or refused, and the text that is taken from them.
use Rattle.std.specs.Prelude.{◌≡◌, ◌⊎◌, Bool, true, false, List, [], ℕ, Option, Some, None, string_bytes}
use Rattle.omega_text.specs.declared.refusal.Refusal.{Refusal}
use Rattle.omega_cli_command.specs.declared.command.Command.{Command}
use Rattle.omega_cli_command.specs.declared.command.Command.TheVariants.{FormulaJudge, TwoTexts}
use Rattle.omega_cli_command.specs.declared.other.Other.TheVariants as other
use Rattle.omega_cli_command.specs.declared.source.Source.{Source}
use Rattle.omega_cli_command.specs.declared.source.Source.TheVariants.{File, Given, Input}
use Rattle.omega_cli_command.specs.declared.task.Task.{Task}
use Rattle.omega_io.specs.declared.reason.Reason.{Reason}
use Rattle.omega_io.specs.declared.unread.Unread.{Unread}
use Rattle.omega_io.specs.Lines.{file_lines}
use Rattle.omega_io.specs.RefusalLine.{line_of}

-- the name of the file of the operand, if that is one
abbrev pub operand_file : Source → Option (List ℕ)
operand_file (File name) = Some (string_bytes name)
operand_file Input = None
operand_file (Given text) = None

-- that of the file that has the other text, if one has it
abbrev pub other_file : Command → Option (List ℕ)
other_file (TwoTexts two (other.File name)) = Some (string_bytes name)
other_file (FormulaJudge asked (other.File name) partition) = Some (string_bytes name)
other_file command = None

-- the file of this name was read as this text, if there is a name
abbrev pub ReadsFile : (List ℕ → List ℕ → Type 0) → Option (List ℕ) → Option (List ℕ) → Type 0
ReadsFile reads (Some name) (Some text) = reads name text
ReadsFile reads None None = Unit {0}
ReadsFile reads name text = ⊥

-- there is a name, this one, and its file is refused so
abbrev pub RefusesFile : (List ℕ → Unread → Type 0) → Option (List ℕ) → (name : List ℕ)
    → Unread → Type 0
RefusesFile refuses (Some file) name unread = (name ≡ file) × refuses name unread
RefusesFile refuses None name unread = ⊥

-- the files of the task were read: that of the operand, and that of the other text
abbrev pub ReadsFiles : (List ℕ → List ℕ → Type 0) → Task → (operand other : Option (List ℕ)) → Type 0
ReadsFiles reads task operand other = ReadsFile reads (operand_file task.source) operand
    × ReadsFile reads (other_file task.command) other

-- a file of the task is refused so: that of the operand; or if that was read, that of the other text
abbrev pub RefusesFiles : (reads : List ℕ → List ℕ → Type 0) → (refuses : List ℕ → Unread → Type 0)
    → Task → (name : List ℕ) → Unread → Type 0
RefusesFiles reads refuses task name unread =
    RefusesFile refuses (operand_file task.source) name unread
    ⊎ ((operand : Option (List ℕ)) × ReadsFile reads (operand_file task.source) operand
    × RefusesFile refuses (other_file task.command) name unread)

-- the text of the operand, or in its place that of the command line, if one of them has the input
abbrev pub operand_text : Source → Option (List ℕ) → Option (List ℕ)
operand_text (Given given) text = Some (string_bytes given)
operand_text source text = text

-- the other text: that of its file, or of the command line
abbrev pub other_text : Command → Option (List ℕ) → List ℕ
other_text (TwoTexts two (other.Given given)) text = string_bytes given
other_text (FormulaJudge asked (other.Given given) partition) text = string_bytes given
other_text command (Some text) = text
other_text command None = []

-- the lines for the refusal of the file of this name: one line, and with `--verbose`, if the file could not be read, a
-- second one, which names it, and the reason of the system, if it tells one
abbrev pub lines_of_file : (verbose : Bool) → List ℕ → Option Reason → Refusal → List ℕ
lines_of_file false name reason refusal = line_of refusal
lines_of_file true name reason refusal = file_lines name reason refusal
