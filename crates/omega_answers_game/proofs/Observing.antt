-- The reports of the runs of `solve`, if it goes on to be refused.
use Rattle.std.proofs.Common.{◌≢◌, List, [], Option, None, Some, ℕ, inl, inr, refl}
use Rattle.omega_text.specs.declared.refusal.Refusal.{Refusal}
use Rattle.omega_text.specs.declared.refusal.Refusal.TheVariants.{Task}
use Rattle.omega_text.specs.declared.refusal.task.TaskFault.TheVariants.{Budget}
use Rattle.omega_game_values.specs.Game.{Node}
use Rattle.omega_game_values.specs.declared.player.Player.{Player}
use Rattle.omega_pg.specs.game.Refusing.{IsReadRefusal}
use Rattle.omega_answers_game.specs.Observing.{AreRuns}
use Rattle.omega_answers_game.specs.private.steps.Lifts.{LiftsWholeGame}
use Rattle.omega_answers_game.specs.declared.solve.asked.Asked.{Asked}
use Rattle.omega_answers_game.specs.declared.solve.asked.Asked.TheVariants as way
use Rattle.omega_solve.specs.budget.Observing.{IsObserved}
use Rattle.omega_solve.specs.declared.budget.observing.Progress.{Progress}
use Rattle.omega_solve.proofs.within_budget.Observed.{made_refused, observed_as}

-- all runs stay made, whatever refuses it later but the budget
pub runs_refused : (asked : Asked) (players : List Player) (refusal : Refusal) → refusal ≢ Task Budget
    → AreRuns asked None players → AreRuns asked (Some refusal) players
runs_refused way.Both players refusal other made = made_refused _ players refusal other made
runs_refused way.Search players refusal other (inl none) = inl (none.0, λ e. other cc)
runs_refused way.Search players refusal other (inr made) = inr (made_refused _ players refusal other made)
runs_refused (way.Player player) players refusal other made = made_refused _ players refusal other made

pub game_refused : (game : List Node) (asked : Asked) (refusal : Refusal) → refusal ≢ Task Budget
    → (nodes : List Node) (players : List Player) → LiftsWholeGame game asked None nodes players → LiftsWholeGame game asked (Some refusal) nodes players
game_refused game asked refusal other nodes players lifted = (lifted.0, runs_refused asked players refusal other lifted.1)

-- a search that answers makes no run
pub search_observed : {L : Type 0} (game : List Node) (tells : Progress → L → L → Type 0) (every budget : ℕ) (before : L)
    → IsObserved (LiftsWholeGame game way.Search) None tells every budget before before
search_observed game tells every budget before = record {
  nodes = game;
  players = [];
  runs = inr (refl, inl (refl, λ e. cc));
  reported = refl;
}

-- if the search gives no answer, the game is lifted for both players
pub both_lifted : {L : Type 0} (game : List Node) (refusal : Option Refusal) (tells : Progress → L → L → Type 0) (every budget : ℕ) (before after : L)
    → IsObserved (LiftsWholeGame game way.Both) refusal tells every budget before after
    → IsObserved (LiftsWholeGame game way.Search) refusal tells every budget before after
both_lifted game refusal tells every budget before after observed =
    observed_as (LiftsWholeGame game way.Both) (LiftsWholeGame game way.Search) refusal tells every budget before after
    (λ nodes players lifted. (lifted.0, inr lifted.1)) observed

-- no text of a game is refused for the budget
pub read_spares : (text : List ℕ) → IsReadRefusal text (Task Budget) → ⊥
read_spares text (inl memory) = cc
read_spares text (inr fault) = fault
