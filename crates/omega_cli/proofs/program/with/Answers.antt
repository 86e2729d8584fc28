-- `with`: a subcommand without options for all subcommands is added as it is.
use Rattle.std.proofs.Common.{◌≡◌, ◌∙◌, ap, true}
use Rattle.clap.specs.Words.{Shape, app_of, shape_of, with_subcommand}
use Rattle.omega_cli.proofs.Adding.{is_plain, third_fails}
use Rattle.omega_cli.proofs.program.with.Goals as goal

pub returns : goal.returns
returns c =
    let plain : (shape_of c.in_ok-added.added).is_plain ≡ true =
    ap (λ (shape : Shape). shape.is_plain) c.in_ok-added.ensures ∙ is_plain c.args.subcommand in
    c.in_ok-whole.ensures.shape (third_fails _ _ _ _ plain)
    ∙ ap (with_subcommand (app_of c.args.program)) c.in_ok-added.ensures
