-- `counted_task`: if automata are counted, a format is not missing.
use Rattle.std.proofs.Common.{inl, inr, refl}
use Rattle.std.proofs.lemmas.Result.{err_from_is_err_and}
use Rattle.omega_cli_command.specs.declared.format.Format.TheVariants.{Hoa}
use Rattle.omega_cli_command.specs.declared.options.OptionName.TheVariants as name
use Rattle.omega_cli_command.specs.declared.subcommand.Subcommand.TheVariants as sub
use Rattle.omega_cli_command.proofs.Formats.{format_is_mistaken}
use Rattle.omega_cli_command.proofs.Speaking.{silent}
use Rattle.omega_cli_command.proofs.tasks.check.counted_task.Goals as goal

pub returns-in_err-format_in-clause-mistaken : goal.returns-in_err-format_in-clause-mistaken
returns-in_err-format_in-clause-mistaken c =
    let p = err_from_is_err_and c.from_residual-in_err-format_in.result c.from_residual-in_err-format_in.ensures.1 in
    rw (p.1, p.2) (format_is_mistaken sub.Check c.args.options.now c.in_err-format_in.field-0.0 (inr (inl refl))
    (λ leaves. silent sub.Check c.args.options.now c.requires.settled leaves.0 Hoa
    (name.AtLeast, inr (refl, refl), c.requires.given))
    c.in_err-format_in.ensures.faulty)
