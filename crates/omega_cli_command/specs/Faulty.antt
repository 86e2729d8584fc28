-- Options that are missing, or whose texts are no values.
use Rattle.std.specs.Prelude.{◌≡◌, Bool, List, Some, None, ℕ}
use Rattle.omega_game_values.specs.declared.player.Player.{Player}
use Rattle.omega_text.specs.Limits.{most_number}
use Rattle.omega_cli_command.specs.Limits.{most_budget, most_effort}
use Rattle.omega_cli_command.specs.Options.{text_of}
use Rattle.omega_cli_command.specs.Reason.{IsReason}
use Rattle.omega_cli_command.specs.Values.{IsFormatText, IsNumberText, IsPlayerText, IsSearcherText}
use Rattle.omega_cli_command.specs.Values.{IsTruthText}
use Rattle.omega_cli_command.specs.declared.format.Format.{Format}
use Rattle.omega_cli_command.specs.declared.mistake.Mistake.{Mistake}
use Rattle.omega_cli_command.specs.declared.mistake.Mistake.TheVariants as mistake
use Rattle.omega_cli_command.specs.declared.options.OptionName.{OptionName}
use Rattle.omega_cli_command.specs.declared.options.OptionName.TheVariants as name
use Rattle.omega_cli_command.specs.declared.options.Options.{Options}
use Rattle.omega_cli_command.specs.declared.searcher_name.SearcherName.{SearcherName}

-- the option has to be given if the subcommand has it; the game only if no automaton, no specification and no formula
-- is given
abbrev pub IsRequired : OptionName → Options → Type 0
IsRequired name.Format options = Unit {0}
IsRequired name.Player options = ⊥
IsRequired name.From options = ⊥
IsRequired name.Budget options = ⊥
IsRequired name.Search options = ⊥
IsRequired name.By options = ⊥
IsRequired name.Effort options = ⊥
IsRequired name.Game options =
    (text_of name.Automaton options ≡ None) × (text_of name.Specification options ≡ None)
    × (text_of name.Formula options ≡ None)
IsRequired name.Automaton options = ⊥
IsRequired name.Specification options = ⊥
IsRequired name.CounterStrategy options = ⊥
IsRequired name.Explain options = ⊥
IsRequired name.Names options = ⊥
IsRequired name.Word options = ⊥
IsRequired name.WordText options = Unit {0}
IsRequired name.ForSome options = ⊥
IsRequired name.Formula options = Unit {0}
IsRequired name.Outs options = ⊥
IsRequired name.Ins options = ⊥
IsRequired name.Negated options = ⊥
IsRequired name.Deterministic options = ⊥
IsRequired name.Status options = ⊥
IsRequired name.With options = Unit {0}
IsRequired name.Trim options = ⊥
IsRequired name.In options = Unit {0}
IsRequired name.To options = text_of name.Formula options ≡ None
IsRequired name.Controller options = ⊥
IsRequired name.AsGame options = ⊥
IsRequired name.Aiger options = ⊥
IsRequired name.Binary options = ⊥
IsRequired name.Lift options = ⊥
IsRequired name.Solution options = ⊥
IsRequired name.Walk options = ⊥
IsRequired name.Legend options = ⊥
IsRequired name.Lasso options = ⊥
IsRequired name.Depth options = ⊥
IsRequired name.Progress options = ⊥
IsRequired name.Stream options = ⊥
IsRequired name.AtLeast options = ⊥
IsRequired name.Winners options = ⊥
IsRequired name.Min options = ⊥
IsRequired name.Json options = ⊥
IsRequired name.Lenient options = ⊥
IsRequired name.Verbose options = ⊥
IsRequired name.File options = ⊥

-- the text is no value of the option
abbrev pub StandsForNothing : OptionName → List ℕ → Type 0
StandsForNothing name.Format text = (format : Format) → IsFormatText text format → ⊥
StandsForNothing name.Player text = (player : Player) → IsPlayerText text player → ⊥
StandsForNothing name.From text = (number : ℕ) → IsNumberText 0 most_number text number → ⊥
StandsForNothing name.Budget text = (number : ℕ) → IsNumberText 0 most_budget text number → ⊥
StandsForNothing name.Search text = (flag : Bool) → IsTruthText text flag → ⊥
StandsForNothing name.By text = (searcher : SearcherName) → IsSearcherText text searcher → ⊥
StandsForNothing name.Effort text = (number : ℕ) → IsNumberText 1 most_effort text number → ⊥
StandsForNothing name.Game text = ⊥
StandsForNothing name.Automaton text = ⊥
StandsForNothing name.Specification text = ⊥
StandsForNothing name.CounterStrategy text = (flag : Bool) → IsTruthText text flag → ⊥
StandsForNothing name.Explain text = (flag : Bool) → IsTruthText text flag → ⊥
StandsForNothing name.Names text = (flag : Bool) → IsTruthText text flag → ⊥
StandsForNothing name.Word text = (flag : Bool) → IsTruthText text flag → ⊥
StandsForNothing name.WordText text = ⊥
StandsForNothing name.ForSome text = (flag : Bool) → IsTruthText text flag → ⊥
StandsForNothing name.Formula text = ⊥
StandsForNothing name.Outs text = ⊥
StandsForNothing name.Ins text = ⊥
StandsForNothing name.Negated text = (flag : Bool) → IsTruthText text flag → ⊥
StandsForNothing name.Deterministic text = (flag : Bool) → IsTruthText text flag → ⊥
StandsForNothing name.Status text = (flag : Bool) → IsTruthText text flag → ⊥
StandsForNothing name.With text = ⊥
StandsForNothing name.Trim text = (flag : Bool) → IsTruthText text flag → ⊥
StandsForNothing name.In text = ⊥
StandsForNothing name.To text = ⊥
StandsForNothing name.Controller text = (flag : Bool) → IsTruthText text flag → ⊥
StandsForNothing name.AsGame text = (flag : Bool) → IsTruthText text flag → ⊥
StandsForNothing name.Aiger text = (flag : Bool) → IsTruthText text flag → ⊥
StandsForNothing name.Binary text = (flag : Bool) → IsTruthText text flag → ⊥
StandsForNothing name.Lift text = (flag : Bool) → IsTruthText text flag → ⊥
StandsForNothing name.Solution text = ⊥
StandsForNothing name.Walk text = ⊥
StandsForNothing name.Legend text = (flag : Bool) → IsTruthText text flag → ⊥
StandsForNothing name.Lasso text = (flag : Bool) → IsTruthText text flag → ⊥
StandsForNothing name.Depth text = (number : ℕ) → IsNumberText 0 most_number text number → ⊥
StandsForNothing name.Progress text = (flag : Bool) → IsTruthText text flag → ⊥
StandsForNothing name.Stream text = (flag : Bool) → IsTruthText text flag → ⊥
StandsForNothing name.AtLeast text = (number : ℕ) → IsNumberText 0 most_number text number → ⊥
StandsForNothing name.Winners text = (flag : Bool) → IsTruthText text flag → ⊥
StandsForNothing name.Min text = (flag : Bool) → IsTruthText text flag → ⊥
StandsForNothing name.Json text = (flag : Bool) → IsTruthText text flag → ⊥
StandsForNothing name.Lenient text = (flag : Bool) → IsTruthText text flag → ⊥
StandsForNothing name.Verbose text = (flag : Bool) → IsTruthText text flag → ⊥
StandsForNothing name.File text = ⊥

-- the mistake is that the option is missing, or that its text is no value of it, with the reason why
abbrev pub IsFaulty : OptionName → Options → Mistake → Type 0
IsFaulty option options (mistake.Missing other) =
    (other ≡ option) × IsRequired option options × (text_of option options ≡ None)
IsFaulty option options (mistake.Value other text reason) =
    (other ≡ option) × (text_of option options ≡ Some text.now) × StandsForNothing option text.now
    × IsReason option text.now reason
IsFaulty option options mistake.Unknown = ⊥
IsFaulty option options (mistake.Conflict one other) = ⊥
IsFaulty option options (mistake.OnlyWith other format) = ⊥
IsFaulty option options mistake.Memory = ⊥
