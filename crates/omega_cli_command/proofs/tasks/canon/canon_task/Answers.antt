-- `canon_task`: a format that is left to a text is not implied.
use Rattle.std.proofs.Common.{refl}
use Rattle.omega_cli_command.proofs.Speaking.{canon_of_any}
use Rattle.omega_cli_command.proofs.tasks.canon.canon_task.Goals as goal

pub returns-then-leaves_format-clause-asked : goal.returns-then-leaves_format-clause-asked
returns-then-leaves_format-clause-asked c =
    let leaves = c.leaves_format.ensures.left c.if-leaves_format.true in
    rw c.task_by_text.ensures (
      (
        leaves,
        canon_of_any c.args.options.now c.in_ok-min.min c.in_ok-binary.binary c.requires
            c.in_ok-min.ensures.given c.in_ok-binary.ensures.given leaves,
      ),
      (refl, refl),
    )
