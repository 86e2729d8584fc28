-- What `--verbose` says besides of a refused text: one line about what is to be mended in it, its cause.
use Rattle.std.specs.Prelude.{◌≡◌, ◌⊎◌, Bool, true, false, List, [], Option, None, Some, Result, Ok, Err, ℕ, codes}
use Rattle.std.specs.Char.{is_ascii_whitespace}
use Rattle.std.specs.List.{list_all}
use Rattle.omega_text.specs.Refusal.{place_of}
use Rattle.omega_text.specs.declared.refusal.Refusal.{Refusal}
use Rattle.omega_text.specs.declared.refusal.Refusal.TheVariants.{Automaton, Game, Task, Text}
use Rattle.omega_text.specs.declared.refusal.game.GameFault.TheVariants.{TooManyEdges, TooManyNodes}
use Rattle.omega_text.specs.declared.refusal.text.TextFault.TheVariants.{Syntax}
use Rattle.omega_text.specs.declared.refusal.task.TaskFault.TheVariants.{BadSolution, Controllable}
use Rattle.omega_text.specs.declared.refusal.task.TaskFault.TheVariants.{NotDeterministic}
use Rattle.omega_game_values.specs.Game.{Node}
use Rattle.omega_hoa_diagnostics.specs.AutomatonCauses.{IsAutomatonCause}
use Rattle.omega_pg_diagnostics.specs.GameCauses.{IsGameCause}
use Rattle.omega_pg_diagnostics.specs.Places.{place_line}
use Rattle.omega_pg_diagnostics.specs.SolutionCauses.{IsSolutionCause}
use Rattle.omega_hoa_diagnostics.specs.ChoiceCauses.{IsChoiceCause}
use Rattle.omega_hoa_diagnostics.specs.ItemCauses.{IsItemCause}
use Rattle.omega_cli_command.specs.declared.command.Command.{Command}
use Rattle.omega_cli_command.specs.declared.command.Command.TheVariants as command
use Rattle.omega_cli_command.specs.declared.formulas.Formulas.{Formulas}
use Rattle.omega_cli_command.specs.declared.formulas.Formulas.TheVariants as asked
use Rattle.omega_cli_command.specs.declared.one_text.OneText.{OneText}
use Rattle.omega_cli_command.specs.declared.one_text.OneText.TheVariants.{Canon, CanonLeast, CanonPart}
use Rattle.omega_cli_command.specs.declared.one_text.OneText.TheVariants.{CanonCircuit, Check, CheckCircuit}
use Rattle.omega_cli_command.specs.declared.one_text.OneText.TheVariants.{CircuitAutomaton, DrawGame, DrawPart}
use Rattle.omega_cli_command.specs.declared.one_text.OneText.TheVariants.{Ltl, LtlDeterministic}
use Rattle.omega_cli_command.specs.declared.one_text.OneText.TheVariants.{Search, Show, ShowCircuit}
use Rattle.omega_cli_command.specs.declared.one_text.OneText.TheVariants.{ShowCircuitJson, ShowJson, Solve}
use Rattle.omega_cli_command.specs.declared.two_texts.TwoTexts.{TwoTexts}
use Rattle.omega_cli_command.specs.declared.two_texts.TwoTexts.TheVariants as two
use Rattle.omega_answers_game.specs.Verify.{IsJudgedGame}
use Rattle.omega_io.specs.declared.exit.Exit.{Exit}
use Rattle.omega_io.specs.declared.refused.Which.{Which}
use Rattle.omega_io.specs.declared.refused.Which.TheVariants.{File, Input}
use Rattle.omega_run.specs.Answers.{Texts}
use Rattle.omega_run.specs.declared.text_kind.TextKind.{TextKind}
use Rattle.omega_run.specs.declared.text_kind.TextKind.TheVariants as kind

-- what a command reads its one text as: an automaton, unless it is named here
abbrev pub kind_of_one : OneText → TextKind
kind_of_one Show = kind.Game
kind_of_one ShowJson = kind.Game
kind_of_one Check = kind.Game
kind_of_one Canon = kind.Game
kind_of_one (CanonPart from) = kind.Game
kind_of_one (CanonLeast from) = kind.Game
kind_of_one (Solve player from) = kind.Game
kind_of_one (Search from by effort) = kind.Game
kind_of_one DrawGame = kind.Game
kind_of_one (DrawPart from depth) = kind.Game
kind_of_one CheckCircuit = kind.Circuit
kind_of_one ShowCircuit = kind.Circuit
kind_of_one ShowCircuitJson = kind.Circuit
kind_of_one (CanonCircuit binary) = kind.Circuit
kind_of_one CircuitAutomaton = kind.Circuit
kind_of_one (Ltl negated) = kind.Other
kind_of_one (LtlDeterministic negated) = kind.Other
kind_of_one other = kind.Automata

-- what a command reads each of two texts as: an automaton, unless it is named here
abbrev pub kind_of_two : TwoTexts → Which → TextKind
kind_of_two (two.Verify from explain) File = kind.Game
kind_of_two (two.Verify from explain) Input = kind.Solution from
kind_of_two (two.VerifyNamed from) File = kind.Game
kind_of_two (two.VerifyNamed from) Input = kind.Solution from
kind_of_two (two.VerifyWinners from explain) File = kind.Game
kind_of_two (two.VerifyWinners from explain) Input = kind.Winners
kind_of_two (two.VerifyLasso explain) File = kind.Automata
kind_of_two (two.VerifyLasso explain) Input = kind.Other
kind_of_two (two.Accepts explain) File = kind.Other
kind_of_two (two.Accepts explain) Input = kind.Automata
kind_of_two (two.AcceptsSome explain) File = kind.Other
kind_of_two (two.AcceptsSome explain) Input = kind.Automata
kind_of_two (two.DrawSolution from depth legend) File = kind.Solution from
kind_of_two (two.DrawSolution from depth legend) Input = kind.Game
kind_of_two (two.DrawWalk from depth legend) File = kind.Other
kind_of_two (two.DrawWalk from depth legend) Input = kind.Game
kind_of_two asked which = kind.Automata

-- what a command that asks formulas reads the text of the input as
abbrev pub kind_asked : Formulas → TextKind
kind_asked (asked.Equal explain) = kind.Automata
kind_asked (asked.Satisfies explain) = kind.Automata
kind_asked (asked.SatisfiesStream explain at_least) = kind.Automata
kind_asked (asked.SatisfiesWord explain) = kind.Other

-- the line that names a place of the text, or no line if there is no place
abbrev pub line_at : List ℕ → Option ℕ → List ℕ
line_at text None = []
line_at text (Some at) = place_line text at

-- the line that says why a text is no solution of the game that is judged, if it is said by this text
abbrev pub IsCauseBeside : (game_text : List ℕ) → (from : Option ℕ) → (text line : List ℕ) → Type 0
IsCauseBeside game_text from text line = (nodes : List Node) × IsJudgedGame game_text from nodes
    × IsSolutionCause nodes text line

-- the cause of a refusal of a text of this kind, which is written so and read as this text, beside another text: the
-- place of 1, 2 and 3 as the text is written; why a game text within the limits makes no game, or a solution text is
-- none of the game beside it; what is at fault in an automaton, why it is not deterministic, or that it lacks the
-- item `controllable-AP:`; of other refusals there is no line
abbrev pub IsCause : TextKind → (written text beside : List ℕ) → Refusal → List ℕ → Type 0
IsCause of written text beside (Text fault) line = line ≡ line_at written (place_of (Text fault))
IsCause of written text beside (Game TooManyNodes) line = line ≡ []
IsCause of written text beside (Game TooManyEdges) line = line ≡ []
IsCause kind.Game written text beside (Game fault) line = IsGameCause text line
IsCause (kind.Solution from) written text beside (Task BadSolution) line =
    IsCauseBeside beside from text line
IsCause kind.Automata written text beside (Automaton fault) line = IsAutomatonCause text line
IsCause kind.Automata written text beside (Task (NotDeterministic state)) line =
    IsChoiceCause text line
IsCause kind.Automata written text beside (Task Controllable) line = IsItemCause text line
IsCause of written text beside refusal line = line ≡ []

-- after this outcome the line is the cause of its refusal, or none if there is no memory for it, or no refusal
abbrev pub MayExplain : (Refusal → List ℕ → Type 0) → Result Exit Refusal → List ℕ → Type 0
MayExplain IsReason (Ok exit) line = line ≡ []
MayExplain IsReason (Err refusal) line = IsReason refusal line ⊎ (line ≡ [])

-- what a command reads the text as
abbrev pub kind_of : Command → Which → TextKind
kind_of (command.OneText one) File = kind.Other
kind_of (command.OneText one) Input = kind_of_one one
kind_of (command.Stream stream) File = kind.Other
kind_of (command.Stream stream) Input = kind.Automata
kind_of (command.TwoTexts two from) which = kind_of_two two which
kind_of (command.Formulas asked formulas) File = kind.Other
kind_of (command.Formulas asked formulas) Input = kind_asked asked
kind_of (command.Synthesis asked partition) which = kind.Other
kind_of (command.FormulaJudge asked from partition) File = kind.Other
kind_of (command.FormulaJudge asked from partition) Input = kind.Automata

-- the one of the texts, and the one beside it
abbrev pub text_of : Texts → Which → List ℕ
text_of read File = read.other
text_of read Input = read.input

abbrev pub text_beside : Texts → Which → List ℕ
text_beside read File = read.input
text_beside read Input = read.other

-- whether a text that is to tell its format tells none: there is nothing but white space in it
abbrev pub is_formless : (by_text : Bool) → List ℕ → Refusal → Bool
is_formless true text (Text (Syntax at)) = list_all is_ascii_whitespace text
is_formless by_text text refusal = false

-- the line that says so
abbrev pub formless_line : List ℕ
formless_line = codes "omega: an empty text is of no format; --format says of which it is\n"

-- the cause, if the text tells no format, or else
abbrev pub IsCauseFor : (formless : Bool) → (List ℕ → Type 0) → List ℕ → Type 0
IsCauseFor true IsLine line = line ≡ formless_line
IsCauseFor false IsLine line = IsLine line

-- with `--verbose` the cause of a refusal that is about one of the texts, which are written so and read as these, and
-- of which that of the input is to tell its format or not; of a refusal that is about none there is no line
abbrev pub IsCauseTold : (verbose by_text : Bool) → Command → (written read : Texts) → Option Which
    → Refusal → List ℕ → Type 0
IsCauseTold true by_text command written read (Some which) refusal =
    IsCauseFor (is_formless by_text written.input refusal) (IsCause (kind_of command which)
    (text_of written which) (text_of read which) (text_beside read which) refusal)
IsCauseTold true by_text command written read None refusal = λ line. line ≡ []
IsCauseTold false by_text command written read about refusal = λ line. line ≡ []
