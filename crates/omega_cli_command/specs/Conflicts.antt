-- Options that do not go together, and those that need others.
use Rattle.std.specs.Prelude.{◌≡◌, ◌≢◌, ◌⊎◌, true, None}
use Rattle.omega_cli_command.specs.Options.{GivesFormat, text_of}
use Rattle.omega_cli_command.specs.Subcommands.{HasOption}
use Rattle.omega_cli_command.specs.Values.{GivesFlag}
use Rattle.omega_cli_command.specs.declared.format.Format.{Format}
use Rattle.omega_cli_command.specs.declared.format.Format.TheVariants.{Aiger, Hoa, Pg}
use Rattle.omega_cli_command.specs.declared.options.OptionName.{OptionName}
use Rattle.omega_cli_command.specs.declared.options.OptionName.TheVariants as name
use Rattle.omega_cli_command.specs.declared.options.Options.{Options}
use Rattle.omega_cli_command.specs.declared.subcommand.Subcommand.{Subcommand}
use Rattle.omega_cli_command.specs.declared.subcommand.Subcommand.TheVariants as sub

-- the option is given; a flag is set
abbrev pub IsUsed : OptionName → Options → Type 0
IsUsed name.Format options = text_of name.Format options ≢ None
IsUsed name.Player options = text_of name.Player options ≢ None
IsUsed name.From options = text_of name.From options ≢ None
IsUsed name.Budget options = text_of name.Budget options ≢ None
IsUsed name.Search options = GivesFlag (text_of name.Search options) true
IsUsed name.By options = text_of name.By options ≢ None
IsUsed name.Effort options = text_of name.Effort options ≢ None
IsUsed name.Game options = text_of name.Game options ≢ None
IsUsed name.Automaton options = text_of name.Automaton options ≢ None
IsUsed name.Specification options = text_of name.Specification options ≢ None
IsUsed name.CounterStrategy options =
    GivesFlag (text_of name.CounterStrategy options) true
IsUsed name.Explain options = GivesFlag (text_of name.Explain options) true
IsUsed name.Names options = GivesFlag (text_of name.Names options) true
IsUsed name.Word options = GivesFlag (text_of name.Word options) true
IsUsed name.WordText options = text_of name.WordText options ≢ None
IsUsed name.ForSome options = GivesFlag (text_of name.ForSome options) true
IsUsed name.Formula options = text_of name.Formula options ≢ None
IsUsed name.Outs options = text_of name.Outs options ≢ None
IsUsed name.Ins options = text_of name.Ins options ≢ None
IsUsed name.Negated options = GivesFlag (text_of name.Negated options) true
IsUsed name.Deterministic options = GivesFlag (text_of name.Deterministic options) true
IsUsed name.Status options = GivesFlag (text_of name.Status options) true
IsUsed name.With options = text_of name.With options ≢ None
IsUsed name.Trim options = GivesFlag (text_of name.Trim options) true
IsUsed name.In options = text_of name.In options ≢ None
IsUsed name.To options = text_of name.To options ≢ None
IsUsed name.Controller options = GivesFlag (text_of name.Controller options) true
IsUsed name.AsGame options = GivesFlag (text_of name.AsGame options) true
IsUsed name.Aiger options = GivesFlag (text_of name.Aiger options) true
IsUsed name.Binary options = GivesFlag (text_of name.Binary options) true
IsUsed name.Lift options = GivesFlag (text_of name.Lift options) true
IsUsed name.Solution options = text_of name.Solution options ≢ None
IsUsed name.Walk options = text_of name.Walk options ≢ None
IsUsed name.Legend options = GivesFlag (text_of name.Legend options) true
IsUsed name.Lasso options = GivesFlag (text_of name.Lasso options) true
IsUsed name.Depth options = text_of name.Depth options ≢ None
IsUsed name.Progress options = GivesFlag (text_of name.Progress options) true
IsUsed name.Stream options = GivesFlag (text_of name.Stream options) true
IsUsed name.AtLeast options = text_of name.AtLeast options ≢ None
IsUsed name.Winners options = GivesFlag (text_of name.Winners options) true
IsUsed name.Min options = GivesFlag (text_of name.Min options) true
IsUsed name.Json options = GivesFlag (text_of name.Json options) true
IsUsed name.Lenient options = GivesFlag (text_of name.Lenient options) true
IsUsed name.Verbose options = GivesFlag (text_of name.Verbose options) true
IsUsed name.File options = text_of name.File options ≢ None

-- the option of the subcommand that conflicts with this one. The search of `solve` is for both players, and that of
-- `empty` makes no lifts. The progress of a stream is not reported. `verify` judges one thing, and only a game has
-- parts, winners and names. Wrong winners are shown by no walk. One of a solution and a walk is drawn. The game of
-- `realize` is written without being solved, and a circuit in place of an automaton and without lifting. `ltl` has one
-- formula, that of the option or that of a file. `realize` decides the formula of the option, without lifting, or the
-- automaton of a file. `equal` compares with a file or with formulas, and `satisfies` is asked of a word, or of the
-- automaton or the stream of a file
abbrev pub IsApartFrom : OptionName → Subcommand → OptionName → Type 0
IsApartFrom name.Search subcommand option =
    ((subcommand ≡ sub.Solve) × (option ≡ name.Player))
    ⊎ ((subcommand ≡ sub.Empty) × ((option ≡ name.Budget) ⊎ (option ≡ name.Progress)))
IsApartFrom name.Stream subcommand option = (subcommand ≡ sub.Empty) × (option ≡ name.Progress)
IsApartFrom name.Automaton subcommand option = (subcommand ≡ sub.Verify)
    × ((option ≡ name.Game) ⊎ (option ≡ name.From) ⊎ (option ≡ name.Winners) ⊎ (option ≡ name.Names)
    ⊎ (option ≡ name.Lenient))
IsApartFrom name.Specification subcommand option = (subcommand ≡ sub.Verify)
    × ((option ≡ name.Automaton) ⊎ (option ≡ name.Game) ⊎ (option ≡ name.From)
    ⊎ (option ≡ name.Winners) ⊎ (option ≡ name.Names) ⊎ (option ≡ name.Lenient))
IsApartFrom name.Winners subcommand option = (subcommand ≡ sub.Verify) × (option ≡ name.Names)
IsApartFrom name.Solution subcommand option = (subcommand ≡ sub.Draw) × (option ≡ name.Walk)
IsApartFrom name.Controller subcommand option = (subcommand ≡ sub.Realize) × (option ≡ name.AsGame)
IsApartFrom name.Aiger subcommand option = (subcommand ≡ sub.Realize)
    × ((option ≡ name.Controller) ⊎ (option ≡ name.AsGame) ⊎ (option ≡ name.Lift)
    ⊎ (option ≡ name.Budget) ⊎ (option ≡ name.Progress))
IsApartFrom name.Formula subcommand option = ((subcommand ≡ sub.Ltl) × (option ≡ name.File))
    ⊎ ((subcommand ≡ sub.Equal) × (option ≡ name.To))
    ⊎ ((subcommand ≡ sub.Realize) × ((option ≡ name.File) ⊎ (option ≡ name.Lift)
    ⊎ (option ≡ name.Budget) ⊎ (option ≡ name.Progress)))
    ⊎ ((subcommand ≡ sub.Verify) × ((option ≡ name.Specification) ⊎ (option ≡ name.Automaton)
    ⊎ (option ≡ name.Game) ⊎ (option ≡ name.From) ⊎ (option ≡ name.Winners) ⊎ (option ≡ name.Names)
    ⊎ (option ≡ name.Lenient)))
IsApartFrom name.WordText subcommand option =
    (subcommand ≡ sub.Satisfies) × ((option ≡ name.File) ⊎ (option ≡ name.Stream))
IsApartFrom name.Lift subcommand option = (subcommand ≡ sub.Realize) × (option ≡ name.AsGame)
IsApartFrom one subcommand option = ⊥

-- two options that are not given together, and both are
pub record IsConflict (subcommand : Subcommand) (options : Options)
    (one other : OptionName) : Type 0 where
  pub apart : IsApartFrom one subcommand other
  pub one_used : IsUsed one options
  pub other_used : IsUsed other options

-- the option of the subcommand that has to be given if this one is. The steps of a depth are counted from a node, and a
-- legend is of a solution, or of a walk that is drawn in place of one. Names are those of an explanation, and a
-- counter-strategy is one for a specification, or for a formula in its place. The propositions of a formula are parted
-- by one list or by both, and no others are. The lifts of `realize` are bounded and reported only if it lifts. A
-- searcher and an effort are those of a search. `realize` writes nothing in binary but a circuit. The automata of a
-- stream are counted, and `check` takes one without saying so
abbrev pub IsNeededBy : OptionName → Subcommand → Options → OptionName → Type 0
IsNeededBy name.Depth subcommand options option = (subcommand ≡ sub.Draw) × (option ≡ name.From)
IsNeededBy name.Legend subcommand options option =
    (subcommand ≡ sub.Draw) × (option ≡ name.Solution) × (text_of name.Walk options ≡ None)
IsNeededBy name.Names subcommand options option = (subcommand ≡ sub.Verify) × (option ≡ name.Explain)
IsNeededBy name.CounterStrategy subcommand options option =
    (subcommand ≡ sub.Verify) × (option ≡ name.Specification) × (text_of name.Formula options ≡ None)
IsNeededBy name.Formula subcommand options option =
    ((subcommand ≡ sub.Realize) ⊎ (subcommand ≡ sub.Verify)) × (option ≡ name.Outs)
    × (text_of name.Ins options ≡ None)
IsNeededBy name.Outs subcommand options option =
    ((subcommand ≡ sub.Realize) ⊎ (subcommand ≡ sub.Verify)) × (option ≡ name.Formula)
IsNeededBy name.Ins subcommand options option =
    ((subcommand ≡ sub.Realize) ⊎ (subcommand ≡ sub.Verify)) × (option ≡ name.Formula)
IsNeededBy name.By subcommand options option = (subcommand ≡ sub.Solve) × (option ≡ name.Search)
IsNeededBy name.Effort subcommand options option = (subcommand ≡ sub.Solve) × (option ≡ name.Search)
IsNeededBy name.Budget subcommand options option = (subcommand ≡ sub.Realize) × (option ≡ name.Lift)
IsNeededBy name.Progress subcommand options option =
    (subcommand ≡ sub.Realize) × (option ≡ name.Lift)
IsNeededBy name.Binary subcommand options option =
    (subcommand ≡ sub.Realize) × (option ≡ name.Aiger)
IsNeededBy name.AtLeast subcommand options option =
    HasOption subcommand name.Stream × (option ≡ name.Stream)
IsNeededBy one subcommand options option = ⊥

-- an option is given without this one, which has to be given with it
pub record IsWanting (subcommand : Subcommand) (options : Options)
    (option : OptionName) : Type 0 where
  pub one : OptionName
  pub needed : IsNeededBy one subcommand options option
  pub one_used : IsUsed one options
  pub missing : IsUsed option options → ⊥

-- the option of the subcommand goes with this format only
abbrev pub IsForFormat : Subcommand → OptionName → Format → Type 0
IsForFormat subcommand option Pg =
    ((subcommand ≡ sub.Canon) × ((option ≡ name.From) ⊎ (option ≡ name.Min)))
    ⊎ ((subcommand ≡ sub.Draw) × ((option ≡ name.Solution) ⊎ (option ≡ name.Walk)
    ⊎ (option ≡ name.Legend) ⊎ (option ≡ name.From) ⊎ (option ≡ name.Depth)))
    ⊎ (HasOption subcommand name.Format × (option ≡ name.Lenient))
IsForFormat subcommand option Hoa = ((subcommand ≡ sub.Draw) × (option ≡ name.Lasso))
    ⊎ ((subcommand ≡ sub.Check) × (option ≡ name.AtLeast))
IsForFormat subcommand option Aiger = (subcommand ≡ sub.Canon) × (option ≡ name.Binary)

-- the option goes with this format only, and is given with another
pub record IsOfOtherFormat (subcommand : Subcommand) (options : Options) (option : OptionName)
    (format : Format) : Type 0 where
  pub only_with : IsForFormat subcommand option format
  pub other : Format
  pub other_given : GivesFormat options other
  pub is_other : other ≢ format
  pub used : IsUsed option options
