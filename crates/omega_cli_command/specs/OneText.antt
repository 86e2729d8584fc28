-- What a subcommand asks for that reads one text.
use Rattle.std.specs.Prelude.{◌≡◌, ◌⊎◌, true, false, Some, None}
use Rattle.omega_cli_command.specs.Formats.{AsksOfAny}
use Rattle.omega_cli_command.specs.Options.{GivesEmptyLines, GivesFormat, GivesNoDrawn, GivesNoLifting}
use Rattle.omega_cli_command.specs.Options.{GivesNoFormula, GivesNoSearching, GivesNode, GivesOne, GivesPart}
use Rattle.omega_cli_command.specs.Options.{GivesWritten, text_of}
use Rattle.omega_cli_command.specs.Values.{Gives, GivesEffort, GivesFlag, IsPlayerText, IsSearcherText}
use Rattle.omega_cli_command.specs.declared.format.Format.TheVariants.{Aiger, Hoa, Pg}
use Rattle.omega_cli_command.specs.declared.one_text.OneText.{OneText}
use Rattle.omega_cli_command.specs.declared.one_text.OneText.TheVariants as one
use Rattle.omega_cli_command.specs.declared.options.OptionName.TheVariants as name
use Rattle.omega_cli_command.specs.declared.options.Options.{Options}
use Rattle.omega_cli_command.specs.declared.subcommand.Subcommand.{Subcommand}
use Rattle.omega_cli_command.specs.declared.subcommand.Subcommand.TheVariants as sub

-- the subcommand, with these options, asks for this of one text
abbrev pub AsksOneText : Subcommand → Options → OneText → Type 0
AsksOneText subcommand options one.Show =
    GivesFormat options Pg × AsksOfAny subcommand options one.Show
AsksOneText subcommand options one.ShowJson =
    GivesFormat options Pg × AsksOfAny subcommand options one.ShowJson
AsksOneText subcommand options one.Check =
    GivesFormat options Pg × AsksOfAny subcommand options one.Check
AsksOneText subcommand options one.ShowCircuit =
    GivesFormat options Aiger × AsksOfAny subcommand options one.Show
AsksOneText subcommand options one.ShowCircuitJson =
    GivesFormat options Aiger × AsksOfAny subcommand options one.ShowJson
AsksOneText subcommand options one.CheckCircuit =
    GivesFormat options Aiger × AsksOfAny subcommand options one.Check
AsksOneText subcommand options (one.CanonCircuit binary) =
    (subcommand ≡ sub.Canon) × GivesFormat options Aiger × (text_of name.From options ≡ None)
    × GivesFlag (text_of name.Min options) false
    × GivesFlag (text_of name.Binary options) binary
AsksOneText subcommand options one.Canon =
    GivesFormat options Pg × AsksOfAny subcommand options one.Canon
AsksOneText subcommand options (one.CanonPart from) =
    (subcommand ≡ sub.Canon) × GivesFormat options Pg × GivesNode options (Some from)
    × GivesFlag (text_of name.Min options) false × GivesFlag (text_of name.Binary options) false
AsksOneText subcommand options (one.CanonLeast from) =
    (subcommand ≡ sub.Canon) × GivesFormat options Pg × GivesNode options from
    × GivesFlag (text_of name.Min options) true × GivesFlag (text_of name.Binary options) false
AsksOneText subcommand options (one.Solve player from) =
    (subcommand ≡ sub.Solve) × GivesFlag (text_of name.Search options) false
    × Gives IsPlayerText (text_of name.Player options) player × GivesNode options from
    × GivesNoSearching options
AsksOneText subcommand options (one.Search from by effort) =
    (subcommand ≡ sub.Solve) × GivesFlag (text_of name.Search options) true
    × (text_of name.Player options ≡ None) × GivesNode options from
    × Gives IsSearcherText (text_of name.By options) by
    × GivesEffort (text_of name.Effort options) effort
AsksOneText subcommand options (one.Empty word names status) =
    (subcommand ≡ sub.Empty) × GivesOne options
    × GivesFlag (text_of name.Search options) false
    × GivesEmptyLines options word names × GivesFlag (text_of name.Status options) status
AsksOneText subcommand options (one.EmptySearch word names status) =
    (subcommand ≡ sub.Empty) × GivesOne options
    × GivesFlag (text_of name.Search options) true × GivesNoLifting options
    × GivesEmptyLines options word names × GivesFlag (text_of name.Status options) status
AsksOneText subcommand options one.Game = subcommand ≡ sub.Game
AsksOneText subcommand options one.CircuitAutomaton = subcommand ≡ sub.Automaton
AsksOneText subcommand options one.Complement = (subcommand ≡ sub.Complement) × GivesOne options
AsksOneText subcommand options one.Trim = (subcommand ≡ sub.Trim) × GivesOne options
AsksOneText subcommand options (one.Ltl negated) = (subcommand ≡ sub.Ltl)
    × GivesFlag (text_of name.Negated options) negated
    × GivesFlag (text_of name.Deterministic options) false
    × ((text_of name.Formula options ≡ None) ⊎ (text_of name.File options ≡ None))
AsksOneText subcommand options (one.LtlDeterministic negated) = (subcommand ≡ sub.Ltl)
    × GivesFlag (text_of name.Negated options) negated
    × GivesFlag (text_of name.Deterministic options) true
    × ((text_of name.Formula options ≡ None) ⊎ (text_of name.File options ≡ None))
AsksOneText subcommand options (one.Realize controller) =
    (subcommand ≡ sub.Realize) × GivesFlag (text_of name.Lift options) false
    × GivesNoLifting options × GivesWritten options controller false false false
    × GivesNoFormula options
AsksOneText subcommand options (one.RealizeByLifting controller) =
    (subcommand ≡ sub.Realize) × GivesFlag (text_of name.Lift options) true
    × GivesWritten options controller false false false × GivesNoFormula options
AsksOneText subcommand options (one.RealizeCircuit binary) =
    (subcommand ≡ sub.Realize) × GivesFlag (text_of name.Lift options) false
    × GivesNoLifting options × GivesWritten options false false true binary
    × GivesNoFormula options
AsksOneText subcommand options one.RealizabilityGame =
    (subcommand ≡ sub.Realize) × GivesFlag (text_of name.Lift options) false
    × GivesNoLifting options × GivesWritten options false true false false
    × GivesNoFormula options
AsksOneText subcommand options one.DrawGame =
    GivesFormat options Pg × AsksOfAny subcommand options one.DrawGame
AsksOneText subcommand options (one.DrawPart from depth) =
    (subcommand ≡ sub.Draw) × GivesFormat options Pg × GivesNoDrawn options
    × GivesPart options (Some from) depth × GivesFlag (text_of name.Lasso options) false
AsksOneText subcommand options one.DrawAutomaton =
    GivesFormat options Hoa × AsksOfAny subcommand options one.DrawGame
AsksOneText subcommand options one.DrawLasso =
    (subcommand ≡ sub.Draw) × GivesFormat options Hoa × GivesNoDrawn options
    × GivesPart options None None × GivesFlag (text_of name.Lasso options) true
