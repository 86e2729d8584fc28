-- What a command line requests, and what of it can be done.
use Rattle.std.specs.Prelude.{◌≤◌}
use Rattle.omega_cli_command.specs.Implied.{Means}
use Rattle.omega_cli_command.specs.Leniency.{GivesLeniency}
use Rattle.omega_cli_command.specs.Limits.{most_budget}
use Rattle.omega_cli_command.specs.Options.{text_of}
use Rattle.omega_cli_command.specs.Source.{GivesSource}
use Rattle.omega_cli_command.specs.Task.{AsksReading}
use Rattle.omega_cli_command.specs.Values.{GivesFlag}
use Rattle.omega_cli_command.specs.declared.options.OptionName.TheVariants as name
use Rattle.omega_cli_command.specs.declared.options.Options.{Options}
use Rattle.omega_cli_command.specs.declared.request.Request.{Request}
use Rattle.omega_cli_command.specs.declared.request.Request.TheVariants as request
use Rattle.omega_cli_command.specs.declared.subcommand.Subcommand.{Subcommand}

-- the subcommand, with these options as they are, requests this task. Its input is what the operand names, or what the
-- command line has itself. It says whether games are read leniently, and whether a refusal is written with what it is
-- about
abbrev pub AsksPlainly : Subcommand → Options → Request → Type 0
AsksPlainly subcommand options (request.Do task) =
    AsksReading task.lenient subcommand options task
    × GivesSource subcommand options task.source
    × GivesLeniency subcommand options task.lenient
    × GivesFlag (text_of name.Verbose options) task.verbose
AsksPlainly subcommand options (request.Help text) = ⊥
AsksPlainly subcommand options (request.Fault text) = ⊥

-- the subcommand requests this with what the options mean
abbrev pub Asks : Subcommand → Options → Request → Type 0
Asks subcommand options request =
    (meant : Options) × Means subcommand options meant × AsksPlainly subcommand meant request

-- the request can be done: the budget of a task is at most the greatest
abbrev pub IsRunnable : Request → Type 0
IsRunnable (request.Do task) = task.budget ≤ most_budget
IsRunnable (request.Help text) = Unit {0}
IsRunnable (request.Fault text) = Unit {0}

-- the request says what is wrong with the command line
abbrev pub IsFault : Request → Type 0
IsFault (request.Do task) = ⊥
IsFault (request.Help text) = ⊥
IsFault (request.Fault text) = Unit {0}
