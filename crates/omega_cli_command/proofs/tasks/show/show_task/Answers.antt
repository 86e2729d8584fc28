-- `show_task`: `show` takes texts of several formats.
use Rattle.std.proofs.Common.{inl, refl}
use Rattle.omega_cli_command.specs.declared.subcommand.Subcommand.TheVariants as sub
use Rattle.omega_cli_command.proofs.tasks.show.show_task.Goals as goal

pub returns-then-branch-clause-mistaken : goal.returns-then-branch-clause-mistaken
returns-then-branch-clause-mistaken c = c.formatted_task.ensures.mistaken sub.Show (inl refl)

pub returns-else-branch-clause-mistaken : goal.returns-else-branch-clause-mistaken
returns-else-branch-clause-mistaken c = c.formatted_task-else-branch.ensures.mistaken sub.Show (inl refl)
