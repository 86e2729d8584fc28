-- `task_for`: the format is that of the subcommand.
use Rattle.omega_cli_command.proofs.tasks.task_for.Goals as goal

pub canon_task-requires : goal.canon_task-requires
canon_task-requires c = rw c.in-Canon.is at c.requires

pub draw_task-requires : goal.draw_task-requires
draw_task-requires c = rw c.in-Draw.is at c.requires

pub check_task-requires : goal.check_task-requires
check_task-requires c = rw c.in-Check.is at c.requires
