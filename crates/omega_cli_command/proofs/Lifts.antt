-- The budget of a task is at most the greatest.
use Rattle.std.proofs.Common.{◌≤◌, ℕ, List, Option, None, Some, arith}
use Rattle.omega_cli_command.specs.Limits.{most_budget}
use Rattle.omega_cli_command.specs.Task.{AsksFor}
use Rattle.omega_cli_command.specs.Values.{GivesBudget}
use Rattle.omega_cli_command.specs.declared.options.Options.{Options}
use Rattle.omega_cli_command.specs.declared.subcommand.Subcommand.{Subcommand}
use Rattle.omega_cli_command.specs.declared.task.Task.{Task}

within : (text : Option (List ℕ)) (budget : ℕ) → GivesBudget text budget → budget ≤ most_budget
within None budget given = omega (arith, given)
within (Some text) budget given = given.within

pub budget_is_bounded : (subcommand : Subcommand) (options : Options) (task : Task) → AsksFor subcommand options task
    → task.budget ≤ most_budget
budget_is_bounded subcommand options task (command, lifts) = within _ task.budget lifts.0
