-- `with_file`: the other text is that of the file.
use Rattle.omega_cli_command.proofs.task.Task.with_file.Goals as goal

pub returns-clause-task : goal.returns-clause-task
returns-clause-task c = (c.in_ok-other.other, c.in_ok-other.ensures.named, c.of.ensures)
