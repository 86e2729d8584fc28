-- The task that a subcommand asks for.
use Rattle.std.specs.Prelude.{Bool, true, false, List, Option, None, ℕ}
use Rattle.omega_cli_command.specs.Formats.{AsksOfAny, LeavesFormat}
use Rattle.omega_cli_command.specs.Formulas.{AsksFormulas}
use Rattle.omega_cli_command.specs.Leniency.{IsForGames}
use Rattle.omega_cli_command.specs.OneText.{AsksOneText}
use Rattle.omega_cli_command.specs.Options.{text_of}
use Rattle.omega_cli_command.specs.Partition.{AsksFormulaJudge, AsksSynthesis}
use Rattle.omega_cli_command.specs.Stream.{AsksStream}
use Rattle.omega_cli_command.specs.TwoTexts.{AsksTwoTexts}
use Rattle.omega_cli_command.specs.Values.{GivesBudget, GivesFlag}
use Rattle.omega_cli_command.specs.declared.command.Command.{Command}
use Rattle.omega_cli_command.specs.declared.command.Command.TheVariants as command
use Rattle.omega_cli_command.specs.declared.options.OptionName.{OptionName}
use Rattle.omega_cli_command.specs.declared.options.OptionName.TheVariants as name
use Rattle.omega_cli_command.specs.declared.options.Options.{Options}
use Rattle.omega_cli_command.specs.declared.subcommand.Subcommand.{Subcommand}
use Rattle.omega_cli_command.specs.declared.subcommand.Subcommand.TheVariants as sub
use Rattle.omega_cli_command.specs.declared.task.Task.{Task}

-- the subcommand, with these options, asks for the command; if the format is left to a text, for that of games
abbrev pub AsksCommand : (by_text : Bool) → Subcommand → Options → Command → Type 0
AsksCommand false subcommand options (command.OneText asked) = AsksOneText subcommand options asked
AsksCommand false subcommand options (command.Stream asked) = AsksStream subcommand options asked
AsksCommand false subcommand options (command.TwoTexts asked other) =
    AsksTwoTexts subcommand options asked other
AsksCommand false subcommand options (command.Formulas asked formulas) =
    AsksFormulas subcommand options asked formulas.items
AsksCommand false subcommand options (command.Synthesis asked partition) =
    AsksSynthesis subcommand options asked partition
AsksCommand false subcommand options (command.FormulaJudge asked other partition) =
    AsksFormulaJudge subcommand options asked other partition
AsksCommand true subcommand options (command.OneText asked) =
    LeavesFormat options × AsksOfAny subcommand options asked
AsksCommand true subcommand options other = ⊥

-- the text of an option that goes with lifting, if the subcommand may lift
abbrev pub lifting_text : Subcommand → OptionName → Options → Option (List ℕ)
lifting_text sub.Solve option options = text_of option options
lifting_text sub.Empty option options = text_of option options
lifting_text sub.Realize option options = text_of option options
lifting_text other option options = None

-- the most lifts of each run, and whether the progress is reported
abbrev pub GivesLifts : Subcommand → Options → (budget : ℕ) → (progress : Bool) → Type 0
GivesLifts subcommand options budget progress =
    GivesBudget (lifting_text subcommand name.Budget options) budget
    × GivesFlag (lifting_text subcommand name.Progress options) progress

-- the subcommand, with these options, asks for the command of the task, with its budget and its reports
abbrev pub AsksFor : Subcommand → Options → Task → Type 0
AsksFor subcommand options task = AsksCommand task.by_text subcommand options task.command
    × GivesLifts subcommand options task.budget task.progress

-- the same, with games read leniently or not
abbrev pub AsksReading : (lenient : Bool) → Subcommand → Options → Task → Type 0
AsksReading false subcommand options task = AsksFor subcommand options task
AsksReading true subcommand options task =
    IsForGames subcommand options × AsksFor subcommand options task
