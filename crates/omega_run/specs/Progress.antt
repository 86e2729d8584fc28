-- The progress lines on standard error while a command lifts, and that the answer counts the lifts that they report.
use Rattle.std.specs.Prelude.{◌≡◌, ◌++◌, Bool, false, true, List, [], Result, IfOk, ℕ, codes, decimal}
use Rattle.omega_text.specs.declared.refusal.Refusal.{Refusal}
use Rattle.omega_answers_empty.specs.Observing.{LiftsAutomatonText}
use Rattle.omega_answers_game.specs.Observing.{CountsReportedOfText, LiftsText}
use Rattle.omega_answers_game.specs.PlayerText.{player_text}
use Rattle.omega_answers_game.specs.declared.solve.asked.Asked.TheVariants as way
use Rattle.omega_answers_synth.specs.Observing as realize
use Rattle.omega_cli_command.specs.declared.command.Command.{Command}
use Rattle.omega_cli_command.specs.declared.command.Command.TheVariants as command
use Rattle.omega_cli_command.specs.declared.one_text.OneText.{OneText}
use Rattle.omega_cli_command.specs.declared.one_text.OneText.TheVariants.{Empty, RealizeByLifting}
use Rattle.omega_cli_command.specs.declared.one_text.OneText.TheVariants.{Search, Solve}
use Rattle.omega_io.specs.declared.exit.Exit.{Exit}
use Rattle.omega_io.specs.declared.refused.Refused.{Refused}
use Rattle.omega_solve.specs.budget.Observing.{IsObserved, lifts_between_reports, refusal_in}
use Rattle.omega_solve.specs.declared.budget.observing.Progress.{Progress}
use Rattle.omega_run.specs.Answers.{Texts}
use Rattle.omega_run.specs.OneText.{asked_for}
use Rattle.omega_run.specs.Results.{plain}

-- the line that reports how far a run has come: the player, how many lifts were made, and how many there are at most
abbrev pub progress_line : Progress → List ℕ
progress_line progress = player_text progress.player ++ codes ": " ++ decimal progress.lifts
    ++ codes " lifts of at most " ++ decimal progress.most ++ codes "\n"

-- the text goes on by the line
abbrev pub GoesOnByLine : Progress → List ℕ → List ℕ → Type 0
GoesOnByLine progress before after = after ≡ before ++ progress_line progress

-- the observer got the reports of the runs that the command made for this answer to the text, or for its refusal; what
-- `solve` answers for one player counts as many lifts as the run that was reported. Other commands make no runs
abbrev pub IsReportedOf : {L : Type 0} → (Progress → L → L → Type 0) → (every : ℕ) → OneText
    → (budget : ℕ) → List ℕ → Result (Exit × List ℕ) Refusal → L → L → Type 0
IsReportedOf tells every (Solve player from) budget text made before after =
    IsObserved (LiftsText text (asked_for player) from) (refusal_in made) tells every budget before after
    × IfOk made (λ reply.
    CountsReportedOfText tells every text (asked_for player) from budget reply.1 before after)
IsReportedOf tells every (Search from by effort) budget text made before after =
    IsObserved (LiftsText text way.Search from) (refusal_in made) tells every budget before after
IsReportedOf tells every (Empty word names status) budget text made before after =
    IsObserved (LiftsAutomatonText text) (refusal_in made) tells every budget before after
IsReportedOf tells every (RealizeByLifting controller) budget text made before after =
    IsObserved (realize.LiftsText text) (refusal_in made) tells every budget before after
IsReportedOf tells every other budget text made before after = after ≡ before

-- the same of a command of any texts
abbrev pub IsReported : {L : Type 0} → (Progress → L → L → Type 0) → (every : ℕ) → Command
    → (budget : ℕ) → Texts → Result (Exit × List ℕ) Refused → L → L → Type 0
IsReported tells every (command.OneText one) budget read made before after =
    IsReportedOf tells every one budget read.input (plain made) before after
IsReported tells every other budget read made before after = after ≡ before

-- the progress lines of a command with this answer or refusal: none unless they are asked for
abbrev pub AreProgressLines : (progress : Bool) → Command → (budget : ℕ) → Texts
    → Result (Exit × List ℕ) Refused → List ℕ → Type 0
AreProgressLines false command budget read made lines = lines ≡ []
AreProgressLines true command budget read made lines =
    IsReported GoesOnByLine lifts_between_reports command budget read made [] lines
