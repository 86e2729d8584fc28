-- What standard error took of the runs of a command is a text of its progress lines.
use Rattle.std.proofs.Common.{◌≡◌, ◌-◌, ◌^◌, ◌<◌, ℕ, List, [], ◌∷◌, Option, None, Some, Result, Ok, Err, inr, refl, subst, sym}
use Rattle.omega_text.specs.declared.refusal.Refusal.{Refusal}
use Rattle.omega_answers_empty.specs.Observing.{LiftsAutomatonText}
use Rattle.omega_answers_game.specs.Observing.{CountsReportedOfText, LiftsText}
use Rattle.omega_answers_game.specs.declared.solve.asked.Asked.TheVariants as way
use Rattle.omega_answers_synth.specs.Observing as realize
use Rattle.omega_cli_command.specs.declared.command.Command.{Command}
use Rattle.omega_cli_command.specs.declared.command.Command.TheVariants as command
use Rattle.omega_cli_command.specs.declared.one_text.OneText.{OneText}
use Rattle.omega_cli_command.specs.declared.one_text.OneText.TheVariants.{Canon, CanonCircuit, CanonLeast, CanonPart, Check, CheckCircuit, CircuitAutomaton, Complement, DrawAutomaton, DrawGame, DrawLasso, DrawPart, Empty, EmptySearch, Game, Ltl, LtlDeterministic, RealizabilityGame, Realize, RealizeByLifting, RealizeCircuit, Search, Show, ShowCircuit, ShowCircuitJson, ShowJson, Solve, Trim}
use Rattle.omega_game_values.specs.declared.player.Player.{Player}
use Rattle.omega_io.specs.declared.exit.Exit.{Exit}
use Rattle.omega_io.specs.declared.refused.Refused.{Refused}
use Rattle.omega_solve.proofs.within_budget.Observed.{one_made}
use Rattle.omega_solve.specs.budget.Observing.{ReportsRun, refusal_in}
use Rattle.omega_run.specs.Answers.{Texts}
use Rattle.omega_run.specs.Progress.{GoesOnByLine, IsReported, IsReportedOf}
use Rattle.omega_run.specs.Results.{plain}
use Rattle.omega_run.specs.private.steps.Telling.{HasReported}
use Rattle.omega_run.proofs.ProgressLines.{HasLines, TellsLines, nothing_reported, observed_lines, run_lines}

module _ {L : Type 0} (held : L → Option (List ℕ)) (failed : L → ℕ) (every budget sound : ℕ) (text : List ℕ)
    (before after : L) (fits : failed before < 2 ^ 64 - 1) (same : sound ≡ failed before) where
  -- what was reported of a run, or of none, in lines
  abbrev Lines : (List ℕ → Type 0) → Type 0
  Lines Holds = HasLines Holds (held before) (held after) (failed before) (failed after)

  -- nothing was reported
  no_lines : after ≡ before → Lines (λ lines. lines ≡ [])
  no_lines kept = record {
    text = [];
    reported = subst (λ (it : L). HasReported (held before) (held it) (failed before) (failed it) []) (sym kept)
        (nothing_reported (held before) (failed before));
    holds = refl;
  }

  -- of a run for one player, whose lifts the answer counts
  player_lines : (player : Player) (from : Option ℕ) (reply : Exit × List ℕ)
      → CountsReportedOfText (TellsLines held failed sound) every text (way.Player player) from budget reply.1 before after
      → Lines (λ lines. IsReportedOf GoesOnByLine every (Solve (Some player) from) budget text (Ok reply) [] lines)
  player_lines player from reply (nodes, judged, (lifts, answer, run)) =
      let reported = subst (λ (n : ℕ). ReportsRun (TellsLines held failed n) every nodes player budget lifts None before after) same run in
      let lines = run_lines held failed (failed before) (held before) every nodes player budget lifts None before after [] fits
      (nothing_reported (held before) (failed before)) reported in
      record {
        text = lines.text;
        reported = lines.reported;
        holds = (
          record { nodes = nodes; players = player ∷ []; runs = inr (judged, one_made player None); reported = (lifts, lines.holds) },
          (nodes, judged, (lifts, answer, lines.holds)),
        );
      }

  -- of a command of one text
  one_text_lines : (one : OneText) (made : Result (Exit × List ℕ) Refusal)
      → IsReportedOf (TellsLines held failed sound) every one budget text made before after
      → Lines (λ lines. IsReportedOf GoesOnByLine every one budget text made [] lines)
  one_text_lines (Solve (Some player) from) (Ok reply) reported = player_lines player from reply reported.1
  one_text_lines (Solve (Some player) from) (Err refusal) reported =
      let lines = observed_lines held failed (LiftsText text (way.Player player) from) (Some refusal) every budget sound before after fits same reported.0 in
      record { text = lines.text; reported = lines.reported; holds = (lines.holds, tt) }
  one_text_lines (Solve None from) (Ok reply) reported =
      let lines = observed_lines held failed (LiftsText text way.Both from) None every budget sound before after fits same reported.0 in
      let (nodes, judged, none) = reported.1 in
      record { text = lines.text; reported = lines.reported; holds = (lines.holds, (nodes, judged, none)) }
  one_text_lines (Solve None from) (Err refusal) reported =
      let lines = observed_lines held failed (LiftsText text way.Both from) (Some refusal) every budget sound before after fits same reported.0 in
      record { text = lines.text; reported = lines.reported; holds = (lines.holds, tt) }
  one_text_lines (Search from by effort) made reported =
      observed_lines held failed (LiftsText text way.Search from) (refusal_in made) every budget sound before after fits same reported
  one_text_lines (Empty word names status) made reported =
      observed_lines held failed (LiftsAutomatonText text) (refusal_in made) every budget sound before after fits same reported
  one_text_lines (RealizeByLifting controller) made reported =
      observed_lines held failed (realize.LiftsText text) (refusal_in made) every budget sound before after fits same reported
  one_text_lines Show made kept = no_lines kept
  one_text_lines ShowJson made kept = no_lines kept
  one_text_lines Check made kept = no_lines kept
  one_text_lines Canon made kept = no_lines kept
  one_text_lines (CanonPart from) made kept = no_lines kept
  one_text_lines (CanonLeast from) made kept = no_lines kept
  one_text_lines (EmptySearch word names status) made kept = no_lines kept
  one_text_lines Game made kept = no_lines kept
  one_text_lines Complement made kept = no_lines kept
  one_text_lines Trim made kept = no_lines kept
  one_text_lines (Ltl negated) made kept = no_lines kept
  one_text_lines (LtlDeterministic negated) made kept = no_lines kept
  one_text_lines (Realize controller) made kept = no_lines kept
  one_text_lines RealizabilityGame made kept = no_lines kept
  one_text_lines DrawGame made kept = no_lines kept
  one_text_lines (DrawPart from depth) made kept = no_lines kept
  one_text_lines DrawAutomaton made kept = no_lines kept
  one_text_lines DrawLasso made kept = no_lines kept
  one_text_lines CheckCircuit made kept = no_lines kept
  one_text_lines ShowCircuit made kept = no_lines kept
  one_text_lines ShowCircuitJson made kept = no_lines kept
  one_text_lines (CanonCircuit binary) made kept = no_lines kept
  one_text_lines CircuitAutomaton made kept = no_lines kept
  one_text_lines (RealizeCircuit binary) made kept = no_lines kept

-- of any command
pub command_lines : {L : Type 0} (held : L → Option (List ℕ)) (failed : L → ℕ) (every budget sound : ℕ) (before after : L)
    → failed before < 2 ^ 64 - 1 → sound ≡ failed before → (asked : Command) (read : Texts) (made : Result (Exit × List ℕ) Refused)
    → IsReported (TellsLines held failed sound) every asked budget read made before after
    → HasLines (λ lines. IsReported GoesOnByLine every asked budget read made [] lines) (held before) (held after) (failed before) (failed after)
command_lines held failed every budget sound before after fits same (command.OneText one) read made reported =
    one_text_lines held failed every budget sound read.input before after fits same one (plain made) reported
command_lines held failed every budget sound before after fits same (command.Stream stream) read made kept =
    no_lines held failed every budget sound read.input before after fits same kept
command_lines held failed every budget sound before after fits same (command.TwoTexts two from) read made kept =
    no_lines held failed every budget sound read.input before after fits same kept
command_lines held failed every budget sound before after fits same (command.Formulas asked formulas) read made kept =
    no_lines held failed every budget sound read.input before after fits same kept
command_lines held failed every budget sound before after fits same (command.Synthesis asked partition) read made kept =
    no_lines held failed every budget sound read.input before after fits same kept
command_lines held failed every budget sound before after fits same (command.FormulaJudge asked from partition) read made kept =
    no_lines held failed every budget sound read.input before after fits same kept
