-- Games that are read as other tools write them.
use Rattle.std.specs.Prelude.{◌≡◌, ◌≢◌, Bool, true, false, None}
use Rattle.omega_cli_command.specs.Options.{GivesFormat, text_of}
use Rattle.omega_cli_command.specs.Subcommands.{HasGames}
use Rattle.omega_cli_command.specs.Values.{GivesFlag}
use Rattle.omega_cli_command.specs.declared.format.Format.TheVariants.{Pg}
use Rattle.omega_cli_command.specs.declared.options.OptionName.TheVariants as name
use Rattle.omega_cli_command.specs.declared.options.Options.{Options}
use Rattle.omega_cli_command.specs.declared.subcommand.Subcommand.{Subcommand}
use Rattle.omega_cli_command.specs.declared.subcommand.Subcommand.TheVariants as sub

-- whether a subcommand that reads games is given `--lenient`
abbrev pub GivesLeniency : Subcommand → Options → Bool → Type 0
GivesLeniency subcommand options true =
    HasGames subcommand × GivesFlag (text_of name.Lenient options) true
GivesLeniency subcommand options false =
    HasGames subcommand → GivesFlag (text_of name.Lenient options) false

-- the options ask for nothing but games: the format is theirs, and `verify` judges what is of a game
pub record IsForGames (subcommand : Subcommand) (options : Options) : Type 0 where
  pub format : subcommand ≢ sub.Solve → subcommand ≢ sub.Verify → GivesFormat options Pg
  pub no_automaton : subcommand ≡ sub.Verify → text_of name.Automaton options ≡ None
  pub unspecified : subcommand ≡ sub.Verify → text_of name.Specification options ≡ None
  pub no_formula : subcommand ≡ sub.Verify → text_of name.Formula options ≡ None
