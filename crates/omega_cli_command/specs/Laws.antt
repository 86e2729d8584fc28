-- Laws of what command lines request.
use Rattle.std.specs.Prelude.{◌≡◌}
use Rattle.omega_cli_command.specs.Implied.{Means}
use Rattle.omega_cli_command.specs.Request.{AsksPlainly}
use Rattle.omega_cli_command.specs.declared.options.Options.{Options}
use Rattle.omega_cli_command.specs.declared.request.Request.{Request}
use Rattle.omega_cli_command.specs.declared.subcommand.Subcommand.{Subcommand}

-- options by which something is requested as they are imply no format, and so they mean what they say
abbrev pub PlainOptionsAreKept : Type 0
PlainOptionsAreKept = (subcommand : Subcommand) (options meant : Options) (asked : Request)
    → AsksPlainly subcommand options asked → Means subcommand options meant → meant ≡ options
