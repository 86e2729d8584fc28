-- `draw_task`: a format that is missing is not left to a text, and one that is left to a text is not implied.
use Rattle.std.proofs.Common.{inr, refl}
use Rattle.std.proofs.lemmas.Result.{err_from_is_err_and}
use Rattle.omega_cli_command.specs.declared.subcommand.Subcommand.TheVariants as sub
use Rattle.omega_cli_command.proofs.Formats.{format_is_mistaken}
use Rattle.omega_cli_command.proofs.Speaking.{draws_anything}
use Rattle.omega_cli_command.proofs.tasks.draw.draw_task.Goals as goal

pub returns-then-leaves_format-clause-asked : goal.returns-then-leaves_format-clause-asked
returns-then-leaves_format-clause-asked c =
    let leaves = c.leaves_format.ensures.left c.if-leaves_format.true in
    rw c.task_by_text.ensures (
      (
        leaves,
        draws_anything c.args.options.now c.in_ok-legend.legend c.in_ok-lasso.lasso c.requires
            c.in_ok-legend.ensures.given c.in_ok-lasso.ensures.given leaves,
      ),
      (refl, refl),
    )

pub returns-in_err-format_in-clause-mistaken : goal.returns-in_err-format_in-clause-mistaken
returns-in_err-format_in-clause-mistaken c =
    let p = err_from_is_err_and c.from_residual-in_err-format_in.result c.from_residual-in_err-format_in.ensures.1 in
    rw (p.1, p.2) (format_is_mistaken sub.Draw c.args.options.now c.in_err-format_in.field-0.0 (inr (inr (inr refl)))
    (c.leaves_format.ensures.told c.if-leaves_format.false) c.in_err-format_in.ensures.faulty)
