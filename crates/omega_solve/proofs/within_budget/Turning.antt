-- The answer of a lifting run in the reordered game, read by place, is one that is found with some number of lifts.
use Rattle.std.proofs.Common.{◌≡◌, ◌∙◌, ℕ, ◌≤◌, Bool, true, List, Option, Err, length, refl, subst, sym, arith}
use Rattle.omega_text.specs.declared.refusal.Refusal.{Refusal}
use Rattle.omega_game_values.specs.declared.player.Player.{Player}
use Rattle.omega_game_values.specs.Bound.{bound_of}
use Rattle.omega_game_values.specs.Game.{IsGame, Node, priorities}
use Rattle.omega_lift_laws.specs.Answer.{won_in}
use Rattle.omega_lift_laws.specs.Laws.{RunsAreBounded}
use Rattle.omega_lift_schedules.specs.Schedule.{all_pending}
use Rattle.omega_solve.specs.declared.outcome.Outcome.TheVariants.{Done}
use Rattle.omega_solve.specs.declared.turns.TurnsAnswer.{TurnsAnswer}
use Rattle.omega_solve.specs.Headline.{Headline}
use Rattle.omega_solve.specs.Solver.{SolverState, solver_state}
use Rattle.omega_solve.specs.Turns.{IsAnswerOfRun, IsNarrow, IsTurnsRefusal}
use Rattle.omega_solve.specs.declared.budget.found.Found.{Found}
use Rattle.omega_solve.specs.budget.Laws.{ReorderingsKeepBounds, ReorderingsKeepStates}
use Rattle.omega_solve.specs.budget.Reordering.{IsReordering, measures_by_place, state_by_place}
use Rattle.omega_solve.specs.budget.Within.{IsFound, IsFoundUncounted}
use Rattle.omega_solve.specs.budget.private.steps.Lifting.{HasLifted}
use Rattle.omega_solve.specs.budget.private.steps.Reordering.{choices_by_place}
use Rattle.omega_solve.proofs.within_budget.Exactness.{choices_here, exact_here}
use Rattle.omega_solve.proofs.within_budget.Games.{refusals_same, widths_same}
use Rattle.omega_solve.proofs.within_budget.Within.{found_within, lifted_by_place}

-- a solver that made the lifts of the run
state_of : (other : List Node) (player : Player) (won : List Bool) (choices : List (Option ℕ)) → IsAnswerOfRun other player won choices → SolverState
state_of other player won choices run =
    solver_state other player (record { player = player; priorities = priorities other; measures = run.table }) (all_pending 0)
    (length run.led_to.places) true

-- it has lifted within the bound
state_lifted : (other : List Node) (player : Player) (won : List Bool) (choices : List (Option ℕ)) (run : IsAnswerOfRun other player won choices) → RunsAreBounded
    → HasLifted other player (bound_of player (priorities other)) Done (state_of other player won choices run)
unfolding state_of
state_lifted other player won choices run bounded =
    let most = bounded other player run.led_to.places run.table run.led_to.lifted in
    record {
      same_nodes = refl;
      same_player = refl;
      reached = record { places = run.led_to.places; lifted = run.led_to.lifted; counted = refl };
      bounded = most;
      within = most;
      stopped = (refl, run.finished);
    }

-- so its answer, read by place, is found with some number of lifts
pub turned : Headline → ReorderingsKeepStates → ReorderingsKeepBounds → RunsAreBounded
    → (nodes other : List Node) (positions places : List ℕ) (player : Player) (won : List Bool) (choices : List (Option ℕ)) (answer : TurnsAnswer)
    → IsGame nodes → IsReordering nodes other positions places → (run : IsAnswerOfRun other player won choices)
    → answer.won.items ≡ won_in (measures_by_place positions run.table) → answer.choice.items ≡ choices_by_place positions places choices
    → IsFoundUncounted nodes player answer
unfolding state_of
turned headline states bounds bounded nodes other positions places player won choices answer game reordering run flags chosen =
    let state = state_of other player won choices run in
    let there = state_lifted other player won choices run bounded in
    let here = subst (λ (budget : ℕ). HasLifted nodes player budget Done (state_by_place nodes positions state))
    (bounds nodes other positions places player reordering)
    (lifted_by_place states bounds nodes other positions places player (bound_of player (priorities other)) Done state game reordering there) in
    let exact = exact_here headline nodes positions places state choices game reordering there.reached run.finished refl run.chosen in
    let found : Found = record { won = answer.won; choice = answer.choice; lifts = length run.led_to.places } in (
      length run.led_to.places,
      found_within nodes player (bound_of player (priorities nodes)) (state_by_place nodes positions state) found here
          (rw (flags, chosen) exact) flags
          (rw chosen (choices_here nodes other positions places reordering (λ v w lt edge. game.closed v w edge) player run.table choices run.chosen)) refl,
    )

-- what is found within a budget is found within a greater one
pub found_at : (nodes : List Node) (player : Player) (less budget : ℕ) (found : Found) → less ≤ budget → IsFound nodes player less found
    → IsFound nodes player budget found
found_at nodes player less budget found le is = record {
  exact = is.exact;
  ended = record {
    within = omega (arith, le, is.ended.within);
    bounded = is.ended.bounded;
    ended = is.ended.ended;
  };
  below_top = is.below_top;
  chosen = is.chosen;
}

-- what refuses to solve the reordered game in turns refuses the game that was given
pub turns_refused : (nodes other : List Node) (positions places : List ℕ) → IsReordering nodes other positions places → (refusal : Refusal)
    → IsTurnsRefusal (priorities other) refusal → IsTurnsRefusal (priorities nodes) refusal
turns_refused nodes other positions places reordering refusal refused =
    (refused.0, refusals_same {A = Unit {0}} nodes other positions places reordering refused.0 (Err refusal) refused.1)

-- if the reordered game is too wide for neither player, then so is the game that was given
pub narrow_given : (nodes other : List Node) (positions places : List ℕ) → IsReordering nodes other positions places → IsNarrow other → IsNarrow nodes
narrow_given nodes other positions places reordering narrow player =
    sym (widths_same nodes other positions places reordering player) ∙ narrow player
