-- What a subcommand asks for that reads a stream of automata.
use Rattle.std.specs.Prelude.{◌≡◌, true, false}
use Rattle.omega_cli_command.specs.Formats.{AsksOfAny}
use Rattle.omega_cli_command.specs.Options.{GivesEmptyLines, GivesFormat, GivesNoLifting, GivesStream, text_of}
use Rattle.omega_cli_command.specs.Values.{GivesAtLeast, GivesFlag}
use Rattle.omega_cli_command.specs.declared.format.Format.TheVariants.{Hoa}
use Rattle.omega_cli_command.specs.declared.one_text.OneText.TheVariants as one
use Rattle.omega_cli_command.specs.declared.options.OptionName.TheVariants as name
use Rattle.omega_cli_command.specs.declared.options.Options.{Options}
use Rattle.omega_cli_command.specs.declared.stream.Stream.{Stream}
use Rattle.omega_cli_command.specs.declared.stream.Stream.TheVariants as stream
use Rattle.omega_cli_command.specs.declared.subcommand.Subcommand.{Subcommand}
use Rattle.omega_cli_command.specs.declared.subcommand.Subcommand.TheVariants as sub

-- the subcommand, with these options, asks for this of a stream of automata
abbrev pub AsksStream : Subcommand → Options → Stream → Type 0
AsksStream subcommand options stream.Show =
    GivesFormat options Hoa × AsksOfAny subcommand options one.Show
AsksStream subcommand options stream.ShowJson =
    GivesFormat options Hoa × AsksOfAny subcommand options one.ShowJson
AsksStream subcommand options (stream.Check at_least) = GivesFormat options Hoa
    × (subcommand ≡ sub.Check) × GivesAtLeast (text_of name.AtLeast options) at_least
AsksStream subcommand options stream.Canon =
    GivesFormat options Hoa × AsksOfAny subcommand options one.Canon
AsksStream subcommand options (stream.Empty word names status at_least) =
    (subcommand ≡ sub.Empty) × GivesStream options at_least
    × GivesFlag (text_of name.Search options) false × GivesFlag (text_of name.Progress options) false
    × GivesEmptyLines options word names × GivesFlag (text_of name.Status options) status
AsksStream subcommand options (stream.EmptySearch word names status at_least) =
    (subcommand ≡ sub.Empty) × GivesStream options at_least
    × GivesFlag (text_of name.Search options) true × GivesNoLifting options
    × GivesEmptyLines options word names × GivesFlag (text_of name.Status options) status
AsksStream subcommand options (stream.Complement at_least) =
    (subcommand ≡ sub.Complement) × GivesStream options at_least
AsksStream subcommand options (stream.Trim at_least) =
    (subcommand ≡ sub.Trim) × GivesStream options at_least
