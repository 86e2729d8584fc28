-- What each command answers to its one text, and why it refuses it.
use Rattle.std.specs.Prelude.{◌≡◌, Bool, false, true, List, Option, Some, None, Result, Ok, Err, ℕ}
use Rattle.omega_text.specs.declared.refusal.Refusal.{Refusal}
use Rattle.omega_answers_game.specs.Refusing.{IsRefusal}
use Rattle.omega_game_values.specs.declared.player.Player.{Player}
use Rattle.omega_cli_command.specs.declared.one_text.OneText.{OneText}
use Rattle.omega_cli_command.specs.declared.one_text.OneText.TheVariants.{Canon, CanonCircuit, CanonLeast}
use Rattle.omega_cli_command.specs.declared.one_text.OneText.TheVariants.{CanonPart, Check, CheckCircuit}
use Rattle.omega_cli_command.specs.declared.one_text.OneText.TheVariants.{CircuitAutomaton, Complement}
use Rattle.omega_cli_command.specs.declared.one_text.OneText.TheVariants.{DrawAutomaton, DrawGame, DrawLasso}
use Rattle.omega_cli_command.specs.declared.one_text.OneText.TheVariants.{DrawPart, Empty, EmptySearch, Game}
use Rattle.omega_cli_command.specs.declared.one_text.OneText.TheVariants.{Ltl, LtlDeterministic}
use Rattle.omega_cli_command.specs.declared.one_text.OneText.TheVariants.{RealizabilityGame, Realize}
use Rattle.omega_cli_command.specs.declared.one_text.OneText.TheVariants.{RealizeByLifting, RealizeCircuit}
use Rattle.omega_cli_command.specs.declared.one_text.OneText.TheVariants.{Search, Show, ShowCircuit}
use Rattle.omega_cli_command.specs.declared.one_text.OneText.TheVariants.{ShowCircuitJson, ShowJson, Solve}
use Rattle.omega_cli_command.specs.declared.one_text.OneText.TheVariants.{Trim}
use Rattle.omega_io.specs.declared.exit.Exit.{Exit}
use Rattle.omega_io.specs.declared.exit.Exit.TheVariants.{Done}
use Rattle.omega_aiger.specs.Text.{IsCircuitTextRefusal}
use Rattle.omega_answers_automaton.specs.Complement.{IsComplementAnswer, IsComplementRefusal}
use Rattle.omega_answers_automaton.specs.Trim.{IsTrimAnswer, IsTrimAnswerRefusal}
use Rattle.omega_answers_circuit.specs.Canon.{IsCircuitCanonAnswer, IsCircuitCanonRefusal}
use Rattle.omega_answers_circuit.specs.Check.{IsCircuitCheckAnswer}
use Rattle.omega_answers_circuit.specs.Show.{IsCircuitShowAnswer}
use Rattle.omega_answers_circuit.specs.ShowJson.{IsCircuitShowJsonAnswer}
use Rattle.omega_answers_circuit.specs.WinningCircuit.{IsWinningCircuitAnswer, IsWinningCircuitRefusal}
use Rattle.omega_answers_circuit.specs.WriteAutomaton.{IsCircuitAutomatonAnswer, IsCircuitAutomatonRefusal}
use Rattle.omega_answers_empty.specs.Draw.{IsAutomatonDrawingAnswer, IsLassoDrawingAnswer}
use Rattle.omega_answers_empty.specs.Game.{IsEmptinessGameAnswer, IsEmptinessGameRefusal}
use Rattle.omega_answers_empty.specs.declared.lines.Lines.{Lines}
use Rattle.omega_answers_empty.specs.empty.Answer.{EndsEmpty, EndsEmptySearch, IsEmptyRefusal}
use Rattle.omega_answers_empty.specs.empty.Answer.{IsEmptySearchRefusal}
use Rattle.omega_answers_formula.specs.Deterministic.{IsDeterministicAnswer, IsDeterministicRefusal}
use Rattle.omega_answers_formula.specs.DeterministicNegation.{IsDeterministicNegationAnswer}
use Rattle.omega_answers_formula.specs.DeterministicNegation.{IsDeterministicNegationRefusal}
use Rattle.omega_answers_formula.specs.Ltl.{IsLtlAnswer, IsLtlRefusal}
use Rattle.omega_answers_game.specs.Canon.{IsCanonAnswer, IsCanonPartAnswer}
use Rattle.omega_answers_game.specs.Check.{IsCheckAnswer}
use Rattle.omega_answers_game.specs.Draw.{IsGameDrawingAnswer}
use Rattle.omega_answers_game.specs.Least.{IsCanonLeastAnswer}
use Rattle.omega_answers_game.specs.Part.{IsPartTextRefusal}
use Rattle.omega_answers_game.specs.Show.{IsShowAnswer}
use Rattle.omega_answers_game.specs.ShowJson.{IsShowJsonAnswer}
use Rattle.omega_answers_game.specs.Verify.{IsJudgedGameRefusal}
use Rattle.omega_answers_game.specs.declared.solve.asked.Asked.{Asked}
use Rattle.omega_answers_game.specs.declared.solve.asked.Asked.TheVariants as way
use Rattle.omega_answers_game.specs.solve.Refusing.{IsSolveRefusal}
use Rattle.omega_answers_game.specs.solve.Solving.{IsSolveAnswer}
use Rattle.omega_answers_synth.specs.Decide.{IsDecisionAnswer}
use Rattle.omega_answers_synth.specs.Game.{IsGameAnswer, IsGameRefusal}
use Rattle.omega_answers_synth.specs.Observing.{IsLiftedDecisionAnswer, IsLiftedWinnerAnswer}
use Rattle.omega_answers_synth.specs.Refusing.{IsRealizeRefusal}
use Rattle.omega_answers_synth.specs.Winner.{IsWinnerAnswer}
use Rattle.omega_answers.specs.Alone.{IsAutomatonRefusal}
use Rattle.omega_solve.specs.Limits.{most_lifts}
use Rattle.omega_run.specs.CircuitForms.{form_for}

-- for which players a game is solved: for one, or for both if none is named
abbrev pub asked_for : Option Player → Asked
asked_for None = way.Both
asked_for (Some player) = way.Player player

-- the command is done with such an output, or refuses for such a reason
abbrev pub Replies : (List ℕ → Type 0) → (Refusal → Type 0) → Result (Exit × List ℕ) Refusal → Type 0
Replies IsAnswer IsReason (Ok reply) = (reply.0 ≡ Done) × IsAnswer reply.1
Replies IsAnswer IsReason (Err refusal) = IsReason refusal

-- the same for a command that ends in more ways than one
abbrev pub Concludes : (Exit → List ℕ → Type 0) → (Refusal → Type 0)
    → Result (Exit × List ℕ) Refusal → Type 0
Concludes IsAnswer IsReason (Ok reply) = IsAnswer reply.0 reply.1
Concludes IsAnswer IsReason (Err refusal) = IsReason refusal

-- the lines that are written of a lasso besides: its word, and its run with the names of states
abbrev pub lines_for : (word names : Bool) → Lines
lines_for word names = record { word = word; run = names }

-- what the command makes of the text, with this budget: how it ends and its output, or the refusal
abbrev pub AnswersOneText : OneText → ℕ → List ℕ → Result (Exit × List ℕ) Refusal → Type 0
AnswersOneText Show budget text = Replies (IsShowAnswer text) (IsRefusal text)
AnswersOneText ShowJson budget text = Replies (IsShowJsonAnswer text) (IsRefusal text)
AnswersOneText Check budget text = Replies (IsCheckAnswer text) (IsRefusal text)
AnswersOneText Canon budget text = Replies (IsCanonAnswer text) (IsRefusal text)
AnswersOneText (CanonPart from) budget text =
    Replies (IsCanonPartAnswer text from) (IsPartTextRefusal text from)
AnswersOneText (CanonLeast from) budget text =
    Replies (IsCanonLeastAnswer text from) (IsJudgedGameRefusal text from)
AnswersOneText (Solve player from) budget text =
    Replies (IsSolveAnswer text (asked_for player) from budget)
    (IsSolveRefusal text (asked_for player) from budget)
AnswersOneText (Search from by effort) budget text =
    Replies (IsSolveAnswer text way.Search from budget) (IsSolveRefusal text way.Search from budget)
AnswersOneText (Empty word names status) budget text =
    Concludes (EndsEmpty text budget (lines_for word names) status) (IsEmptyRefusal text budget)
AnswersOneText (EmptySearch word names status) budget text =
    Concludes (EndsEmptySearch text (lines_for word names) status) (IsEmptySearchRefusal text)
AnswersOneText Complement budget text = Replies (IsComplementAnswer text) (IsComplementRefusal text)
AnswersOneText (Ltl negated) budget text = Replies (IsLtlAnswer text negated) (IsLtlRefusal text negated)
AnswersOneText (LtlDeterministic false) budget text =
    Replies (IsDeterministicAnswer text) (IsDeterministicRefusal text)
AnswersOneText (LtlDeterministic true) budget text =
    Replies (IsDeterministicNegationAnswer text) (IsDeterministicNegationRefusal text)
AnswersOneText Trim budget text = Replies (IsTrimAnswer text) (IsTrimAnswerRefusal text)
AnswersOneText Game budget text = Replies (IsEmptinessGameAnswer text) (IsEmptinessGameRefusal text)
AnswersOneText (Realize false) budget text =
    Concludes (IsDecisionAnswer text) (IsRealizeRefusal text most_lifts)
AnswersOneText (Realize true) budget text =
    Concludes (IsWinnerAnswer text) (IsRealizeRefusal text most_lifts)
AnswersOneText (RealizeByLifting false) budget text =
    Concludes (IsLiftedDecisionAnswer text budget) (IsRealizeRefusal text budget)
AnswersOneText (RealizeByLifting true) budget text =
    Concludes (IsLiftedWinnerAnswer text budget) (IsRealizeRefusal text budget)
AnswersOneText RealizabilityGame budget text = Replies (IsGameAnswer text) (IsGameRefusal text)
AnswersOneText DrawGame budget text = Replies (IsGameDrawingAnswer text None None) (IsRefusal text)
AnswersOneText DrawAutomaton budget text =
    Replies (IsAutomatonDrawingAnswer text) (IsAutomatonRefusal text)
AnswersOneText (DrawPart from depth) budget text =
    Replies (IsGameDrawingAnswer text (Some from) depth) (IsPartTextRefusal text from)
AnswersOneText DrawLasso budget text = Replies (IsLassoDrawingAnswer text) (IsEmptySearchRefusal text)
AnswersOneText CheckCircuit budget text = Replies (IsCircuitCheckAnswer text) (IsCircuitTextRefusal text)
AnswersOneText ShowCircuit budget text = Replies (IsCircuitShowAnswer text) (IsCircuitTextRefusal text)
AnswersOneText ShowCircuitJson budget text =
    Replies (IsCircuitShowJsonAnswer text) (IsCircuitTextRefusal text)
AnswersOneText (CanonCircuit binary) budget text =
    Replies (IsCircuitCanonAnswer (form_for binary) text) (IsCircuitCanonRefusal (form_for binary) text)
AnswersOneText CircuitAutomaton budget text =
    Replies (IsCircuitAutomatonAnswer text) (IsCircuitAutomatonRefusal text)
AnswersOneText (RealizeCircuit binary) budget text =
    Concludes (IsWinningCircuitAnswer (form_for binary) text)
    (IsWinningCircuitRefusal (form_for binary) text)
