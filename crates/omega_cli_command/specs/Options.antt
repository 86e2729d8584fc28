-- The texts of the options, and what several options give.
use Rattle.std.specs.Prelude.{◌≡◌, ◌≢◌, Bool, false, true, List, [], Option, Some, None, IsSome, ℕ, map}
use Rattle.std.specs.Prelude.{option_map, slice_get, unwrap_or}
use Rattle.omega_text.specs.Limits.{most_number}
use Rattle.omega_cli_command.specs.Values.{Gives, GivesAtLeast, GivesFlag, IsFormatText, IsNumberText}
use Rattle.omega_cli_command.specs.declared.format.Format.{Format}
use Rattle.omega_cli_command.specs.declared.options.OptionName.{OptionName}
use Rattle.omega_cli_command.specs.declared.options.OptionName.TheVariants as name
use Rattle.omega_cli_command.specs.declared.options.Options.{Options}

-- the texts of the formulas, in the order in which they are given
abbrev pub formulas_of : Options → List (List ℕ)
formulas_of options =
    unwrap_or (option_map (λ texts. map (λ text. text.now) texts.now) options.formulas) []

-- the text of an option, or of the operand, if it is given; of several formulas that of the first
abbrev pub text_of : OptionName → Options → Option (List ℕ)
text_of name.Format options = option_map (λ text. text.now) options.format
text_of name.Player options = option_map (λ text. text.now) options.player
text_of name.From options = option_map (λ text. text.now) options.from
text_of name.Budget options = option_map (λ text. text.now) options.budget
text_of name.Search options = option_map (λ text. text.now) options.search
text_of name.By options = option_map (λ text. text.now) options.by
text_of name.Effort options = option_map (λ text. text.now) options.effort
text_of name.Game options = option_map (λ text. text.now) options.game
text_of name.Automaton options = option_map (λ text. text.now) options.automaton
text_of name.Specification options = option_map (λ text. text.now) options.specification
text_of name.CounterStrategy options =
    option_map (λ text. text.now) options.counter_strategy
text_of name.Explain options = option_map (λ text. text.now) options.explain
text_of name.Names options = option_map (λ text. text.now) options.names
text_of name.Word options = option_map (λ text. text.now) options.word
text_of name.WordText options = option_map (λ text. text.now) options.word_text
text_of name.ForSome options = option_map (λ text. text.now) options.for_some
text_of name.Formula options = slice_get (formulas_of options) 0
text_of name.Outs options = option_map (λ text. text.now) options.outs
text_of name.Ins options = option_map (λ text. text.now) options.ins
text_of name.Negated options = option_map (λ text. text.now) options.negated
text_of name.Deterministic options =
    option_map (λ text. text.now) options.deterministic
text_of name.Status options = option_map (λ text. text.now) options.status
text_of name.With options = option_map (λ text. text.now) options.with
text_of name.Trim options = option_map (λ text. text.now) options.trim
text_of name.In options = option_map (λ text. text.now) options.within
text_of name.To options = option_map (λ text. text.now) options.to
text_of name.Controller options = option_map (λ text. text.now) options.controller
text_of name.AsGame options = option_map (λ text. text.now) options.as_game
text_of name.Aiger options = option_map (λ text. text.now) options.aiger
text_of name.Binary options = option_map (λ text. text.now) options.binary
text_of name.Lift options = option_map (λ text. text.now) options.lift
text_of name.Solution options = option_map (λ text. text.now) options.solution
text_of name.Walk options = option_map (λ text. text.now) options.walk
text_of name.Legend options = option_map (λ text. text.now) options.legend
text_of name.Lasso options = option_map (λ text. text.now) options.lasso
text_of name.Depth options = option_map (λ text. text.now) options.depth
text_of name.Progress options = option_map (λ text. text.now) options.progress
text_of name.Stream options = option_map (λ text. text.now) options.stream
text_of name.AtLeast options = option_map (λ text. text.now) options.at_least
text_of name.Winners options = option_map (λ text. text.now) options.winners
text_of name.Min options = option_map (λ text. text.now) options.min
text_of name.Json options = option_map (λ text. text.now) options.json
text_of name.Lenient options = option_map (λ text. text.now) options.lenient
text_of name.Verbose options = option_map (λ text. text.now) options.verbose
text_of name.File options = option_map (λ text. text.now) options.file

-- the formulas are given, at least one
abbrev pub GivesFormulas : Options → List (List ℕ) → Type 0
GivesFormulas options formulas = (formulas ≡ formulas_of options) × (formulas ≢ [])

-- the format is given
abbrev pub GivesFormat : Options → Format → Type 0
GivesFormat options format = Gives IsFormatText (text_of name.Format options) (Some format)

-- the node whose part of a game is meant, if one is
abbrev pub GivesNode : Options → Option ℕ → Type 0
GivesNode options from = Gives (IsNumberText 0 most_number) (text_of name.From options) from

-- the part of a game that the node `from` reaches, by at most `depth` steps if that is given; a depth needs a node from
-- which its steps are counted
abbrev pub GivesPart : Options → (from depth : Option ℕ) → Type 0
GivesPart options from depth = GivesNode options from
    × Gives (IsNumberText 0 most_number) (text_of name.Depth options) depth
    × (IsSome depth → IsSome from)

-- nothing is drawn in a game: neither a solution nor a walk, and so no legend
abbrev pub GivesNoDrawn : Options → Type 0
GivesNoDrawn options = (text_of name.Solution options ≡ None) × (text_of name.Walk options ≡ None)
    × GivesFlag (text_of name.Legend options) false

-- the options ask `empty` for the word of a lasso, and for the states of its run with their names
abbrev pub GivesEmptyLines : Options → (word names : Bool) → Type 0
GivesEmptyLines options word names =
    GivesFlag (text_of name.Word options) word × GivesFlag (text_of name.Names options) names

-- the options ask for one text
abbrev pub GivesOne : Options → Type 0
GivesOne options =
    GivesFlag (text_of name.Stream options) false × (text_of name.AtLeast options ≡ None)

-- the options ask for a stream, which is to have at least so many automata
abbrev pub GivesStream : Options → (at_least : ℕ) → Type 0
GivesStream options at_least = GivesFlag (text_of name.Stream options) true
    × GivesAtLeast (text_of name.AtLeast options) at_least

-- no option is given that goes with lifting
abbrev pub GivesNoLifting : Options → Type 0
GivesNoLifting options =
    (text_of name.Budget options ≡ None) × GivesFlag (text_of name.Progress options) false

-- no option is given that goes with a formula
abbrev pub GivesNoFormula : Options → Type 0
GivesNoFormula options = (text_of name.Formula options ≡ None)
    × (text_of name.Outs options ≡ None) × (text_of name.Ins options ≡ None)

-- whether the options ask `realize` to write the winner's automaton, the game, or a circuit, and that in binary
abbrev pub GivesWritten : Options → (controller as_game aiger binary : Bool) → Type 0
GivesWritten options controller as_game aiger binary =
    GivesFlag (text_of name.Controller options) controller
    × GivesFlag (text_of name.AsGame options) as_game
    × GivesFlag (text_of name.Aiger options) aiger × GivesFlag (text_of name.Binary options) binary

-- no option is given that goes with the search of a game
abbrev pub GivesNoSearching : Options → Type 0
GivesNoSearching options = (text_of name.By options ≡ None) × (text_of name.Effort options ≡ None)
