-- `plain_request`: the budget is that of a task that is asked for.
use Rattle.omega_cli_command.proofs.Lifts.{budget_is_bounded}
use Rattle.omega_cli_command.proofs.request.plain_request.Goals as goal

pub returns-clause-runnable : goal.returns-clause-runnable
returns-clause-runnable c =
    budget_is_bounded c.args.subcommand c.args.options.now c.in_ok-task.task c.in_ok-task.ensures.asked
