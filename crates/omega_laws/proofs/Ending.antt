-- Runs that were made of what is not refused have ended.
use Rattle.std.proofs.Common.{◌≡◌, inl, inr, ℕ, List, Option, None, Some, refl, subst}
use Rattle.omega_text.specs.declared.refusal.Refusal.{Refusal}
use Rattle.omega_text.specs.declared.refusal.Refusal.TheVariants.{Task}
use Rattle.omega_text.specs.declared.refusal.task.TaskFault.TheVariants.{Budget}
use Rattle.omega_solve.specs.budget.Observing.{ReportsRun, ReportsRuns}
use Rattle.omega_solve.specs.budget.Within.{EndsSo, EndsWithin}
use Rattle.omega_solve.specs.declared.budget.observing.Progress.{Progress}
use Rattle.omega_game_values.specs.Game.{Node}
use Rattle.omega_game_values.specs.declared.player.Player.{Player}
use Rattle.omega_game_values.specs.declared.player.Player.TheVariants.{Zero}
use Rattle.omega_synth_realize.specs.Solving.{AreLifted}
use Rattle.omega_solve.specs.declared.outcome.Outcome.{Outcome}
use Rattle.omega_solve.specs.declared.outcome.Outcome.TheVariants.{Done, Spent}
use Rattle.omega_laws.specs.LiftedAnswers.{LiftedAnswersEnd}

module _ {L : Type 0} (tells : Progress → L → L → Type 0) (every budget : ℕ) (nodes : List Node) where
  -- a run of what is not refused
  run_ended : (player : Player) (lifts : ℕ) (before after : L) → ReportsRun tells every nodes player budget lifts None before after → EndsWithin nodes player budget lifts
  run_ended player lifts before after run = go run.outcome refl run.ended
    where
      go : (outcome : Outcome) → run.outcome ≡ outcome → EndsSo outcome nodes player budget lifts → EndsWithin nodes player budget lifts
      go Done is ended = ended
      go Spent is ended = absurd (let no : ◌≡◌ {A = Option Refusal} None (Some (Task Budget)) = run.spent.0 is in cc)

  -- the first of the runs is for player 0
  first_ended : (players : List Player) (before after : L) → AreLifted None players → ReportsRuns tells every nodes players budget None before after
      → (lifts : ℕ) × EndsWithin nodes Zero budget lifts
  first_ended players before after (inl made) reported =
      let run = subst (λ (ps : List Player). ReportsRuns tells every nodes ps budget None before after) (made.whole refl) reported in
      (run.0, run_ended Zero run.0 before after run.1)
  first_ended players before after (inr made) reported =
      let run = subst (λ (ps : List Player). ReportsRuns tells every nodes ps budget None before after) (made.whole refl) reported in
      (run.0, run_ended Zero run.0 before run.1 run.2)

pub answers_end : {L : Type 0} (tells : Progress → L → L → Type 0) → LiftedAnswersEnd tells
answers_end {L} tells text every budget before after observed = elim observed.runs [
  | inl untried ↦ absurd (untried.refused refl)
  | inr lifts ↦ record {
    automaton = lifts.automaton;
    read = lifts.read;
    controlled = lifts.lifts.controlled;
    stated = lifts.lifts.stated;
    ended = elim lifts.lifts.lifts [
      | inl none ↦ inl none.0
      | inr parted ↦
          let ended = first_ended tells every budget observed.nodes observed.players before after parted.is.1 observed.reported in
          inr (record {
            rounds = parted.rounds;
            letters = parted.letters;
            start = parted.start;
            parted = parted.parted;
            is = record { game = observed.nodes; game_is = parted.is.0; lifts = ended.0; ends = ended.1 };
          })
    ];
  }
]
