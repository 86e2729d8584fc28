-- `check_task`: `check` takes texts of several formats.
use Rattle.std.proofs.Common.{inl, inr, refl}
use Rattle.omega_cli_command.specs.declared.subcommand.Subcommand.TheVariants as sub
use Rattle.omega_cli_command.proofs.tasks.check.check_task.Goals as goal

pub returns-else-is_some-clause-mistaken : goal.returns-else-is_some-clause-mistaken
returns-else-is_some-clause-mistaken c = c.formatted_task.ensures.mistaken sub.Check (inr (inl refl))
