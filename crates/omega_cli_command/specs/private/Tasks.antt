-- Tasks with the defaults, those whose format a text tells, and those with the text of a file too; and whether a task
-- is about a stream.
use Rattle.std.specs.Prelude.{◌≡◌, false, true, List, Option, None, Some, ℕ}
use Rattle.omega_cli_command.specs.Limits.{most_budget}
use Rattle.omega_cli_command.specs.Options.{GivesOne, GivesStream}
use Rattle.omega_cli_command.specs.TwoTexts.{NamesOther}
use Rattle.omega_cli_command.specs.declared.command.Command.{Command}
use Rattle.omega_cli_command.specs.declared.command.Command.TheVariants as command
use Rattle.omega_cli_command.specs.declared.one_text.OneText.{OneText}
use Rattle.omega_cli_command.specs.declared.options.Options.{Options}
use Rattle.omega_cli_command.specs.declared.other.Other.{Other}
use Rattle.omega_cli_command.specs.declared.source.Source.TheVariants as source
use Rattle.omega_cli_command.specs.declared.task.Task.{Task}
use Rattle.omega_cli_command.specs.declared.two_texts.TwoTexts.{TwoTexts}

-- the task of a command with the text of standard input, the greatest budget, and no flag
abbrev pub default_task : Command → Task
default_task command = record {
  command = command;
  by_text = false;
  source = source.Input;
  budget = most_budget;
  progress = false;
  lenient = false;
  verbose = false;
}

-- the same of a command of games, or of that of automata in its place
abbrev pub task_by_text : OneText → Task
task_by_text game = record (default_task (command.OneText game)) { by_text = true }

-- the task is this one, about the text of standard input and that of the file of this name
abbrev pub IsTaskWithFile : TwoTexts → (name : List ℕ) → Task → Type 0
IsTaskWithFile asked name task = (source : Other) × NamesOther (Some name) source
    × (task ≡ default_task (command.TwoTexts asked source))

-- the options ask for a stream with at least so many automata, or for one text
abbrev pub GivesCount : Options → Option ℕ → Type 0
GivesCount options None = GivesOne options
GivesCount options (Some at_least) = GivesStream options at_least
