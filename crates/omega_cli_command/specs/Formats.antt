-- The commands that take a text of several formats, and the format that is left to the text of a file.
use Rattle.std.specs.Prelude.{◌≡◌, true, false, None}
use Rattle.omega_cli_command.specs.Options.{GivesNoDrawn, GivesPart, text_of}
use Rattle.omega_cli_command.specs.Source.{NamesFile}
use Rattle.omega_cli_command.specs.Values.{GivesFlag}
use Rattle.omega_cli_command.specs.declared.command.Command.{Command}
use Rattle.omega_cli_command.specs.declared.command.Command.TheVariants as command
use Rattle.omega_cli_command.specs.declared.one_text.OneText.{OneText}
use Rattle.omega_cli_command.specs.declared.one_text.OneText.TheVariants as one
use Rattle.omega_cli_command.specs.declared.options.OptionName.TheVariants as name
use Rattle.omega_cli_command.specs.declared.options.Options.{Options}
use Rattle.omega_cli_command.specs.declared.stream.Stream.TheVariants as stream
use Rattle.omega_cli_command.specs.declared.subcommand.Subcommand.{Subcommand}
use Rattle.omega_cli_command.specs.declared.subcommand.Subcommand.TheVariants as sub

-- the command for a text of automata: that of automata in place of one of games, and any other as it is
abbrev pub for_automata : Command → Command
for_automata (command.OneText one.Show) = command.Stream stream.Show
for_automata (command.OneText one.ShowJson) = command.Stream stream.ShowJson
for_automata (command.OneText one.Check) = command.Stream (stream.Check 0)
for_automata (command.OneText one.Canon) = command.Stream stream.Canon
for_automata (command.OneText one.DrawGame) = command.OneText one.DrawAutomaton
for_automata other = other

-- the command for the text of a circuit: that of circuits in place of one of games, and any other as it is
abbrev pub for_circuits : Command → Command
for_circuits (command.OneText one.Show) = command.OneText one.ShowCircuit
for_circuits (command.OneText one.ShowJson) = command.OneText one.ShowCircuitJson
for_circuits (command.OneText one.Check) = command.OneText one.CheckCircuit
for_circuits (command.OneText one.Canon) = command.OneText (one.CanonCircuit false)
for_circuits other = other

-- the subcommand, with these options, asks of a text of any of its formats for what this command does with a game
abbrev pub AsksOfAny : Subcommand → Options → OneText → Type 0
AsksOfAny subcommand options one.Show =
    (subcommand ≡ sub.Show) × GivesFlag (text_of name.Json options) false
AsksOfAny subcommand options one.ShowJson =
    (subcommand ≡ sub.Show) × GivesFlag (text_of name.Json options) true
AsksOfAny subcommand options one.Check =
    (subcommand ≡ sub.Check) × (text_of name.AtLeast options ≡ None)
AsksOfAny subcommand options one.Canon =
    (subcommand ≡ sub.Canon) × (text_of name.From options ≡ None)
    × GivesFlag (text_of name.Min options) false × GivesFlag (text_of name.Binary options) false
AsksOfAny subcommand options one.DrawGame =
    (subcommand ≡ sub.Draw) × GivesNoDrawn options × GivesPart options None None
    × GivesFlag (text_of name.Lasso options) false
AsksOfAny subcommand options other = ⊥

-- the format is left to the text of a file: none is given
abbrev pub LeavesFormat : Options → Type 0
LeavesFormat options =
    (text_of name.Format options ≡ None) × NamesFile (text_of name.File options)
