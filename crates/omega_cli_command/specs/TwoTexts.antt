-- What a subcommand asks for that reads two texts, and where the other of them comes from.
use Rattle.std.specs.Prelude.{◌≡◌, Bool, true, false, List, Option, Some, None, ℕ, string_bytes}
use Rattle.omega_cli_command.specs.Options.{GivesFormat, GivesNoFormula, GivesNode, GivesOne, GivesPart}
use Rattle.omega_cli_command.specs.Options.{GivesStream, text_of}
use Rattle.omega_cli_command.specs.Values.{GivesFlag}
use Rattle.omega_cli_command.specs.declared.format.Format.TheVariants.{Pg}
use Rattle.omega_cli_command.specs.declared.options.OptionName.TheVariants as name
use Rattle.omega_cli_command.specs.declared.options.Options.{Options}
use Rattle.omega_cli_command.specs.declared.other.Other.{Other}
use Rattle.omega_cli_command.specs.declared.other.Other.TheVariants as other
use Rattle.omega_cli_command.specs.declared.subcommand.Subcommand.{Subcommand}
use Rattle.omega_cli_command.specs.declared.subcommand.Subcommand.TheVariants as sub
use Rattle.omega_cli_command.specs.declared.two_texts.TwoTexts.{TwoTexts}
use Rattle.omega_cli_command.specs.declared.two_texts.TwoTexts.TheVariants as two

-- the option names the file of the other text
abbrev pub NamesOther : Option (List ℕ) → Other → Type 0
NamesOther None source = ⊥
NamesOther (Some name) (other.File file) = name ≡ string_bytes file
NamesOther (Some name) (other.Given text) = ⊥

-- the option has the other text, that of a word
abbrev pub HasOther : Option (List ℕ) → Other → Type 0
HasOther None source = ⊥
HasOther (Some given) (other.File file) = ⊥
HasOther (Some given) (other.Given text) = given ≡ string_bytes text

-- `verify`, with these options, asks whether what the input has is right for the game of a file, or for the part that
-- the node `from` reaches
abbrev pub AsksOfGame : Options → (from : Option ℕ) → (explain : Bool) → Other → Type 0
AsksOfGame options from explain source = NamesOther (text_of name.Game options) source
    × (text_of name.Automaton options ≡ None) × (text_of name.Specification options ≡ None)
    × GivesFlag (text_of name.CounterStrategy options) false × GivesNoFormula options
    × GivesNode options from × GivesFlag (text_of name.Explain options) explain

-- `verify`, with these options, asks whether what the input has is right for the specification of a file
abbrev pub AsksOfSpecification : Options → (explain : Bool) → Other → Type 0
AsksOfSpecification options explain source = NamesOther (text_of name.Specification options) source
    × (text_of name.Game options ≡ None) × (text_of name.Automaton options ≡ None)
    × (text_of name.From options ≡ None) × GivesFlag (text_of name.Winners options) false
    × GivesFlag (text_of name.Names options) false × GivesFlag (text_of name.Explain options) explain
    × GivesNoFormula options

-- `draw`, with these options, asks for a game, or the part that the node `from` reaches, and for what this option
-- names to be drawn in it, but not what the other does
abbrev pub AsksToDraw : Options → (drawn left : Option (List ℕ)) → (from depth : Option ℕ)
    → (legend : Bool) → Other → Type 0
AsksToDraw options drawn left from depth legend source =
    GivesFormat options Pg × NamesOther drawn source × (left ≡ None)
    × GivesFlag (text_of name.Legend options) legend × GivesPart options from depth
    × GivesFlag (text_of name.Lasso options) false

-- the subcommand, with these options, asks for this of the text of the input and of the other
abbrev pub AsksTwoTexts : Subcommand → Options → TwoTexts → Other → Type 0
AsksTwoTexts subcommand options (two.Verify from explain) source =
    (subcommand ≡ sub.Verify) × AsksOfGame options from explain source
    × GivesFlag (text_of name.Winners options) false × GivesFlag (text_of name.Names options) false
AsksTwoTexts subcommand options (two.VerifyNamed from) source =
    (subcommand ≡ sub.Verify) × AsksOfGame options from true source
    × GivesFlag (text_of name.Winners options) false × GivesFlag (text_of name.Names options) true
AsksTwoTexts subcommand options (two.VerifyWinners from explain) source =
    (subcommand ≡ sub.Verify) × AsksOfGame options from explain source
    × GivesFlag (text_of name.Winners options) true × GivesFlag (text_of name.Names options) false
AsksTwoTexts subcommand options (two.VerifyLasso explain) source = (subcommand ≡ sub.Verify)
    × NamesOther (text_of name.Automaton options) source × (text_of name.Game options ≡ None)
    × (text_of name.Specification options ≡ None) × (text_of name.From options ≡ None)
    × GivesFlag (text_of name.CounterStrategy options) false × GivesNoFormula options
    × GivesFlag (text_of name.Winners options) false × GivesFlag (text_of name.Names options) false
    × GivesFlag (text_of name.Explain options) explain
AsksTwoTexts subcommand options (two.VerifyController explain) source =
    (subcommand ≡ sub.Verify) × AsksOfSpecification options explain source
    × GivesFlag (text_of name.CounterStrategy options) false
AsksTwoTexts subcommand options (two.VerifyCounterStrategy explain) source =
    (subcommand ≡ sub.Verify) × AsksOfSpecification options explain source
    × GivesFlag (text_of name.CounterStrategy options) true
AsksTwoTexts subcommand options (two.Meet trim) source = (subcommand ≡ sub.Meet)
    × NamesOther (text_of name.With options) source × GivesFlag (text_of name.Trim options) trim
AsksTwoTexts subcommand options two.Join source =
    (subcommand ≡ sub.Join) × NamesOther (text_of name.With options) source
AsksTwoTexts subcommand options (two.Accepts explain) source = (subcommand ≡ sub.Accepts)
    × HasOther (text_of name.WordText options) source
    × GivesFlag (text_of name.Explain options) explain × GivesFlag (text_of name.ForSome options) false
AsksTwoTexts subcommand options (two.AcceptsSome explain) source = (subcommand ≡ sub.Accepts)
    × HasOther (text_of name.WordText options) source
    × GivesFlag (text_of name.Explain options) explain × GivesFlag (text_of name.ForSome options) true
AsksTwoTexts subcommand options (two.Contained explain) source = (subcommand ≡ sub.Contained)
    × NamesOther (text_of name.In options) source × GivesFlag (text_of name.Explain options) explain
    × GivesOne options
AsksTwoTexts subcommand options (two.ContainedStream explain at_least) source =
    (subcommand ≡ sub.Contained) × NamesOther (text_of name.In options) source
    × GivesFlag (text_of name.Explain options) explain × GivesStream options at_least
AsksTwoTexts subcommand options (two.Equal explain) source = (subcommand ≡ sub.Equal)
    × NamesOther (text_of name.To options) source × GivesFlag (text_of name.Explain options) explain
    × (text_of name.Formula options ≡ None)
AsksTwoTexts subcommand options (two.DrawSolution from depth legend) source =
    (subcommand ≡ sub.Draw) × AsksToDraw options (text_of name.Solution options)
    (text_of name.Walk options) from depth legend source
AsksTwoTexts subcommand options (two.DrawWalk from depth legend) source =
    (subcommand ≡ sub.Draw) × AsksToDraw options (text_of name.Walk options)
    (text_of name.Solution options) from depth legend source
