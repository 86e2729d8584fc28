-- Options with which something is requested as they are imply no format.
use Rattle.std.proofs.Common.{◌≡◌, ◌∙◌, Bool, true, false, List, Option, None, Some, ap, inl, inr, refl, sym, ℕ}
use Rattle.omega_text.specs.Limits.{most_number}
use Rattle.omega_cli_command.specs.Formats.{AsksOfAny}
use Rattle.omega_cli_command.specs.Formulas.{AsksFormulas}
use Rattle.omega_cli_command.specs.Implied.{ImpliesFormat, Means, MeansWith, SpeaksFirstOf, SpeaksOf}
use Rattle.omega_cli_command.specs.Leniency.{GivesLeniency}
use Rattle.omega_cli_command.specs.OneText.{AsksOneText}
use Rattle.omega_cli_command.specs.Options.{GivesFormat, text_of}
use Rattle.omega_cli_command.specs.Partition.{AsksFormulaJudge}
use Rattle.omega_cli_command.specs.Request.{AsksPlainly}
use Rattle.omega_cli_command.specs.Stream.{AsksStream}
use Rattle.omega_cli_command.specs.Subcommands.{HasGames, HasOption}
use Rattle.omega_cli_command.specs.Task.{AsksCommand, AsksReading}
use Rattle.omega_cli_command.specs.TwoTexts.{AsksTwoTexts}
use Rattle.omega_cli_command.specs.Values.{GivesFlag, IsNumberText}
use Rattle.omega_cli_command.specs.declared.command.Command.{Command}
use Rattle.omega_cli_command.specs.declared.command.Command.TheVariants as command
use Rattle.omega_cli_command.specs.declared.format.Format.{Format}
use Rattle.omega_cli_command.specs.declared.format.Format.TheVariants.{Aiger, Hoa, Pg}
use Rattle.omega_cli_command.specs.declared.formula_judge.FormulaJudge.{FormulaJudge}
use Rattle.omega_cli_command.specs.declared.formula_judge.FormulaJudge.TheVariants as judge
use Rattle.omega_cli_command.specs.declared.formulas.Formulas.{Formulas}
use Rattle.omega_cli_command.specs.declared.formulas.Formulas.TheVariants as formulas
use Rattle.omega_cli_command.specs.declared.one_text.OneText.{OneText}
use Rattle.omega_cli_command.specs.declared.one_text.OneText.TheVariants as one
use Rattle.omega_cli_command.specs.declared.options.OptionName.TheVariants as name
use Rattle.omega_cli_command.specs.declared.options.Options.{Options}
use Rattle.omega_cli_command.specs.declared.other.Other.{Other}
use Rattle.omega_cli_command.specs.declared.partition.Partition.{Partition}
use Rattle.omega_cli_command.specs.declared.request.Request.{Request}
use Rattle.omega_cli_command.specs.declared.request.Request.TheVariants as request
use Rattle.omega_cli_command.specs.declared.stream.Stream.{Stream}
use Rattle.omega_cli_command.specs.declared.stream.Stream.TheVariants as stream
use Rattle.omega_cli_command.specs.declared.subcommand.Subcommand.{Subcommand}
use Rattle.omega_cli_command.specs.declared.subcommand.Subcommand.TheVariants as sub
use Rattle.omega_cli_command.specs.declared.task.Task.{Task}
use Rattle.omega_cli_command.specs.declared.two_texts.TwoTexts.{TwoTexts}
use Rattle.omega_cli_command.specs.declared.two_texts.TwoTexts.TheVariants as two
use Rattle.omega_cli_command.specs.private.Implied.{DrawsNothingOfGame}
use Rattle.omega_cli_command.proofs.Given.{given_none, unset}
use Rattle.omega_cli_command.proofs.Speaking.{silent_of_all, silent_of_automata, silent_of_circuits, silent_of_games}

-- ---- the subcommands that take a format

abbrev takes_format : Subcommand → Bool
takes_format sub.Show = true
takes_format sub.Check = true
takes_format sub.Canon = true
takes_format sub.Draw = true
takes_format other = false

takes : (subcommand : Subcommand) → HasOption subcommand name.Format → takes_format subcommand ≡ true
takes subcommand (inl is) = rw is refl
takes subcommand (inr (inl is)) = rw is refl
takes subcommand (inr (inr (inl is))) = rw is refl
takes subcommand (inr (inr (inr is))) = rw is refl

-- ---- with a format that is not given, nothing is asked for but by the text

module _ (subcommand : Subcommand) (options : Options) (has : HasOption subcommand name.Format)
    (none : text_of name.Format options ≡ None) where
  -- the subcommand is not one that takes no format
  apart : (other : Subcommand) → subcommand ≡ other → takes_format other ≡ false → ⊥
  apart other is without = cc (sym (takes subcommand has) ∙ ap takes_format is ∙ without)

  ungiven : (format : Format) → GivesFormat options format → ⊥
  ungiven format given = rw none at given

  no_one_text : (asked : OneText) → AsksOneText subcommand options asked → ⊥
  no_one_text one.Show asks = ungiven Pg asks.0
  no_one_text one.ShowJson asks = ungiven Pg asks.0
  no_one_text one.Check asks = ungiven Pg asks.0
  no_one_text one.ShowCircuit asks = ungiven Aiger asks.0
  no_one_text one.ShowCircuitJson asks = ungiven Aiger asks.0
  no_one_text one.CheckCircuit asks = ungiven Aiger asks.0
  no_one_text (one.CanonCircuit binary) asks = ungiven Aiger asks.1
  no_one_text one.Canon asks = ungiven Pg asks.0
  no_one_text (one.CanonPart from) asks = ungiven Pg asks.1
  no_one_text (one.CanonLeast from) asks = ungiven Pg asks.1
  no_one_text (one.Solve player from) asks = apart sub.Solve asks.0 refl
  no_one_text (one.Search from by effort) asks = apart sub.Solve asks.0 refl
  no_one_text (one.Empty word names status) asks = apart sub.Empty asks.0 refl
  no_one_text (one.EmptySearch word names status) asks = apart sub.Empty asks.0 refl
  no_one_text one.Game asks = apart sub.Game asks refl
  no_one_text one.CircuitAutomaton asks = apart sub.Automaton asks refl
  no_one_text one.Complement asks = apart sub.Complement asks.0 refl
  no_one_text one.Trim asks = apart sub.Trim asks.0 refl
  no_one_text (one.Ltl negated) asks = apart sub.Ltl asks.0 refl
  no_one_text (one.LtlDeterministic negated) asks = apart sub.Ltl asks.0 refl
  no_one_text (one.Realize controller) asks = apart sub.Realize asks.0 refl
  no_one_text (one.RealizeByLifting controller) asks = apart sub.Realize asks.0 refl
  no_one_text (one.RealizeCircuit binary) asks = apart sub.Realize asks.0 refl
  no_one_text one.RealizabilityGame asks = apart sub.Realize asks.0 refl
  no_one_text one.DrawGame asks = ungiven Pg asks.0
  no_one_text (one.DrawPart from depth) asks = ungiven Pg asks.1
  no_one_text one.DrawAutomaton asks = ungiven Hoa asks.0
  no_one_text one.DrawLasso asks = ungiven Hoa asks.1

  no_stream : (asked : Stream) → AsksStream subcommand options asked → ⊥
  no_stream stream.Show asks = ungiven Hoa asks.0
  no_stream stream.ShowJson asks = ungiven Hoa asks.0
  no_stream (stream.Check at_least) asks = ungiven Hoa asks.0
  no_stream stream.Canon asks = ungiven Hoa asks.0
  no_stream (stream.Empty word names status at_least) asks = apart sub.Empty asks.0 refl
  no_stream (stream.EmptySearch word names status at_least) asks = apart sub.Empty asks.0 refl
  no_stream (stream.Complement at_least) asks = apart sub.Complement asks.0 refl
  no_stream (stream.Trim at_least) asks = apart sub.Trim asks.0 refl

  no_two_texts : (asked : TwoTexts) (other : Other) → AsksTwoTexts subcommand options asked other → ⊥
  no_two_texts (two.Verify from explain) other asks = apart sub.Verify asks.0 refl
  no_two_texts (two.VerifyNamed from) other asks = apart sub.Verify asks.0 refl
  no_two_texts (two.VerifyWinners from explain) other asks = apart sub.Verify asks.0 refl
  no_two_texts (two.VerifyLasso explain) other asks = apart sub.Verify asks.0 refl
  no_two_texts (two.VerifyController explain) other asks = apart sub.Verify asks.0 refl
  no_two_texts (two.VerifyCounterStrategy explain) other asks = apart sub.Verify asks.0 refl
  no_two_texts (two.Meet trim) other asks = apart sub.Meet asks.0 refl
  no_two_texts two.Join other asks = apart sub.Join asks.0 refl
  no_two_texts (two.Accepts explain) other asks = apart sub.Accepts asks.0 refl
  no_two_texts (two.AcceptsSome explain) other asks = apart sub.Accepts asks.0 refl
  no_two_texts (two.Contained explain) other asks = apart sub.Contained asks.0 refl
  no_two_texts (two.ContainedStream explain at_least) other asks = apart sub.Contained asks.0 refl
  no_two_texts (two.Equal explain) other asks = apart sub.Equal asks.0 refl
  no_two_texts (two.DrawSolution from depth legend) other asks = ungiven Pg asks.1.0
  no_two_texts (two.DrawWalk from depth legend) other asks = ungiven Pg asks.1.0

  no_formulas : (asked : Formulas) (texts : List (List ℕ)) → AsksFormulas subcommand options asked texts → ⊥
  no_formulas (formulas.Equal explain) texts asks = apart sub.Equal asks.0 refl
  no_formulas (formulas.Satisfies explain) texts asks = apart sub.Satisfies asks.0 refl
  no_formulas (formulas.SatisfiesStream explain at_least) texts asks = apart sub.Satisfies asks.0 refl
  no_formulas (formulas.SatisfiesWord explain) texts asks = apart sub.Satisfies asks.0 refl

  no_judge : (asked : FormulaJudge) (other : Other) (partition : Partition)
      → AsksFormulaJudge subcommand options asked other partition → ⊥
  no_judge (judge.Controller explain) other partition asks = apart sub.Verify asks.0 refl
  no_judge (judge.CounterStrategy explain) other partition asks = apart sub.Verify asks.0 refl

  no_command : (asked : Command) → AsksCommand false subcommand options asked → ⊥
  no_command (command.OneText asked) asks = no_one_text asked asks
  no_command (command.Stream asked) asks = no_stream asked asks
  no_command (command.TwoTexts asked other) asks = no_two_texts asked other asks
  no_command (command.Formulas asked texts) asks = no_formulas asked texts.items asks
  no_command (command.Synthesis asked partition) asks = apart sub.Realize asks.0 refl
  no_command (command.FormulaJudge asked other partition) asks = no_judge asked other partition asks

-- ---- and what is asked for by the text leaves out the options that go with one format alone

-- the options of `canon`, of `draw` and of `check` that go with one format alone
abbrev LeavesCanon : Options → Type 0
LeavesCanon options = (text_of name.From options ≡ None) × (GivesFlag (text_of name.Min options) true → ⊥)
    × (GivesFlag (text_of name.Binary options) true → ⊥)

abbrev LeavesDraw : Options → Type 0
LeavesDraw options = DrawsNothingOfGame options × (GivesFlag (text_of name.Lasso options) true → ⊥)

abbrev LeavesCheck : Options → Type 0
LeavesCheck options = text_of name.AtLeast options ≡ None

leaves : (subcommand : Subcommand) (options : Options) (asked : OneText) → AsksOfAny subcommand options asked
    → (subcommand ≡ sub.Canon → LeavesCanon options) × (subcommand ≡ sub.Draw → LeavesDraw options)
    × (subcommand ≡ sub.Check → LeavesCheck options)
leaves subcommand options one.Show asks =
    (λ is. absurd (cc (sym asks.0 ∙ is)), λ is. absurd (cc (sym asks.0 ∙ is)), λ is. absurd (cc (sym asks.0 ∙ is)))
leaves subcommand options one.ShowJson asks =
    (λ is. absurd (cc (sym asks.0 ∙ is)), λ is. absurd (cc (sym asks.0 ∙ is)), λ is. absurd (cc (sym asks.0 ∙ is)))
leaves subcommand options one.Check asks =
    (λ is. absurd (cc (sym asks.0 ∙ is)), λ is. absurd (cc (sym asks.0 ∙ is)), λ is. asks.1)
leaves subcommand options one.Canon asks = (
  λ is. (asks.1, unset _ asks.2, unset _ asks.3),
  λ is. absurd (cc (sym asks.0 ∙ is)),
  λ is. absurd (cc (sym asks.0 ∙ is)),
)
leaves subcommand options one.DrawGame (draw, (solution, walk, legend), (from, depth, node), lasso) = (
  λ is. absurd (cc (sym draw ∙ is)),
  λ is. (
    (
      solution,
      walk,
      unset _ legend,
      given_none (IsNumberText 0 most_number) (text_of name.From options) None from refl,
      given_none (IsNumberText 0 most_number) (text_of name.Depth options) None depth refl,
    ),
    unset _ lasso,
  ),
  λ is. absurd (cc (sym draw ∙ is)),
)
leaves subcommand options one.ShowCircuit asks = absurd asks
leaves subcommand options one.ShowCircuitJson asks = absurd asks
leaves subcommand options one.CheckCircuit asks = absurd asks
leaves subcommand options (one.CanonCircuit binary) asks = absurd asks
leaves subcommand options (one.CanonPart from) asks = absurd asks
leaves subcommand options (one.CanonLeast from) asks = absurd asks
leaves subcommand options (one.Solve player from) asks = absurd asks
leaves subcommand options (one.Search from by effort) asks = absurd asks
leaves subcommand options (one.Empty word names status) asks = absurd asks
leaves subcommand options (one.EmptySearch word names status) asks = absurd asks
leaves subcommand options one.Game asks = absurd asks
leaves subcommand options one.CircuitAutomaton asks = absurd asks
leaves subcommand options one.Complement asks = absurd asks
leaves subcommand options one.Trim asks = absurd asks
leaves subcommand options (one.Ltl negated) asks = absurd asks
leaves subcommand options (one.LtlDeterministic negated) asks = absurd asks
leaves subcommand options (one.Realize controller) asks = absurd asks
leaves subcommand options (one.RealizeByLifting controller) asks = absurd asks
leaves subcommand options (one.RealizeCircuit binary) asks = absurd asks
leaves subcommand options one.RealizabilityGame asks = absurd asks
leaves subcommand options (one.DrawPart from depth) asks = absurd asks
leaves subcommand options one.DrawAutomaton asks = absurd asks
leaves subcommand options one.DrawLasso asks = absurd asks

nothing_of : (subcommand : Subcommand) (options : Options) (asked : OneText) → AsksOfAny subcommand options asked
    → (GivesFlag (text_of name.Lenient options) true → ⊥) → (format : Format) → SpeaksOf subcommand options format → ⊥
nothing_of subcommand options asked asks strict =
    let left = leaves subcommand options asked asks in
    silent_of_all subcommand options
    (silent_of_games subcommand options strict (λ canon. ((left.0 canon).0, (left.0 canon).1)) (λ draw. (left.1 draw).0))
    (silent_of_automata subcommand options (λ draw. (left.1 draw).1) left.2)
    (silent_of_circuits subcommand options (λ canon. (left.0 canon).2))

-- ---- so nothing is implied

-- an option that goes with one format alone is one of a subcommand that takes a format
speaker : (subcommand : Subcommand) (options : Options) (format : Format) → SpeaksOf subcommand options format
    → HasOption subcommand name.Format
speaker subcommand options Pg (option, inl (is, other), used) = inr (inr (inl is))
speaker subcommand options Pg (option, inr (inl (is, other)), used) = inr (inr (inr is))
speaker subcommand options Pg (option, inr (inr (has, other)), used) = has
speaker subcommand options Hoa (option, inl (is, other), used) = inr (inr (inr is))
speaker subcommand options Hoa (option, inr (is, other), used) = inr (inl is)
speaker subcommand options Aiger (option, (is, other), used) = inr (inr (inl is))

games_of : (subcommand : Subcommand) → HasOption subcommand name.Format → HasGames subcommand
games_of subcommand (inl is) = inl is
games_of subcommand (inr (inl is)) = inr (inl is)
games_of subcommand (inr (inr (inl is))) = inr (inr (inl is))
games_of subcommand (inr (inr (inr is))) = inr (inr (inr (inl is)))

no_reading : (lenient : Bool) (subcommand : Subcommand) (options : Options) (task : Task) (format : Format)
    → AsksReading lenient subcommand options task → GivesLeniency subcommand options lenient
    → text_of name.Format options ≡ None → SpeaksOf subcommand options format → ⊥
no_reading true subcommand options task format (games, asks) lenient none speaks =
    let has = speaker subcommand options format speaks in
    ungiven subcommand options has none Pg
    (games.format (λ is. apart subcommand options has none sub.Solve is refl) (λ is. apart subcommand options has none sub.Verify is refl))
no_reading false subcommand options task format (asks, lifts) strict none speaks =
    by_text task.by_text task.command asks
  where
    has : HasOption subcommand name.Format
    has = speaker subcommand options format speaks

    by_text : (by_text : Bool) (asked : Command) → AsksCommand by_text subcommand options asked → ⊥
    by_text false asked asks = no_command subcommand options has none asked asks
    by_text true (command.OneText asked) (left, asks) =
        nothing_of subcommand options asked asks (unset _ (strict (games_of subcommand has))) format speaks
    by_text true (command.Stream asked) asks = absurd asks
    by_text true (command.TwoTexts asked other) asks = absurd asks
    by_text true (command.Formulas asked texts) asks = absurd asks
    by_text true (command.Synthesis asked partition) asks = absurd asks
    by_text true (command.FormulaJudge asked other partition) asks = absurd asks

first_speaks : (subcommand : Subcommand) (options : Options) (format : Format) → SpeaksFirstOf subcommand options format
    → SpeaksOf subcommand options format
first_speaks subcommand options Pg first = first
first_speaks subcommand options Hoa first = first.0
first_speaks subcommand options Aiger first = first.0

pub kept : (subcommand : Subcommand) (options meant : Options) (asked : Request) → AsksPlainly subcommand options asked
    → Means subcommand options meant → meant ≡ options
kept subcommand options meant (request.Do task) (reading, source, lenient, verbose) means =
    by_implied means.implied means.is_implied means.is_meant
  where
    by_implied : (implied : Option Format) → ImpliesFormat subcommand options implied → MeansWith implied options meant → meant ≡ options
    by_implied None is_implied is_meant = is_meant
    by_implied (Some format) (none, first) is_meant =
        absurd (no_reading task.lenient subcommand options task format reading lenient none (first_speaks subcommand options format first))
kept subcommand options meant (request.Help text) asks means = absurd asks
kept subcommand options meant (request.Fault text) asks means = absurd asks
