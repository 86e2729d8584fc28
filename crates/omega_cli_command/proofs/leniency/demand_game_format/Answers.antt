-- `demand_game_format`: with `--lenient` a format is not missing.
use Rattle.std.proofs.Common.{inr, refl}
use Rattle.std.proofs.lemmas.Result.{err_from_is_err_and}
use Rattle.omega_cli_command.specs.declared.format.Format.TheVariants.{Pg}
use Rattle.omega_cli_command.specs.declared.options.OptionName.TheVariants as name
use Rattle.omega_cli_command.proofs.Formats.{format_is_mistaken}
use Rattle.omega_cli_command.proofs.Speaking.{silent}
use Rattle.omega_cli_command.proofs.leniency.demand_game_format.Goals as goal

pub returns-in_err-format_in-clause-mistaken : goal.returns-in_err-format_in-clause-mistaken
returns-in_err-format_in-clause-mistaken c =
    let p = err_from_is_err_and c.from_residual.result c.from_residual.ensures.1 in
    rw (p.1, p.2) (format_is_mistaken c.args.subcommand c.args.options.now c.in_err-format_in.field-0.0 c.requires.format
    (λ leaves. silent c.args.subcommand c.args.options.now c.requires.settled leaves.0 Pg
    (name.Lenient, inr (inr (c.requires.format, refl)), c.requires.lenient.1))
    c.in_err-format_in.ensures.faulty)
