-- The reports of the run of `empty`, also if it goes on to be refused.
use Rattle.std.proofs.Common.{◌≢◌, ℕ, List, None, Some}
use Rattle.omega_text.specs.declared.refusal.Refusal.{Refusal}
use Rattle.omega_text.specs.declared.refusal.Refusal.TheVariants.{Task}
use Rattle.omega_text.specs.declared.refusal.task.TaskFault.TheVariants.{Budget}
use Rattle.omega_hoa_automaton.specs.Automaton.{Description}
use Rattle.omega_empty.specs.Observing.{LiftsAutomaton}
use Rattle.omega_game_values.specs.Game.{Node}
use Rattle.omega_game_values.specs.declared.player.Player.{Player}
use Rattle.omega_answers_empty.specs.Observing.{LiftsAutomatonText}
use Rattle.omega_solve.proofs.within_budget.Observed.{made_refused}

-- the run stays made, whatever refuses it later but the budget
pub automaton_refused : (automaton : Description) (refusal : Refusal) → refusal ≢ Task Budget
    → (nodes : List Node) (players : List Player) → LiftsAutomaton automaton None nodes players → LiftsAutomaton automaton (Some refusal) nodes players
automaton_refused automaton refusal other nodes players lifted = (lifted.0, made_refused _ players refusal other lifted.1)

-- also by the text
pub text_refused : (text : List ℕ) (refusal : Refusal) → refusal ≢ Task Budget
    → (nodes : List Node) (players : List Player) → LiftsAutomatonText text None nodes players → LiftsAutomatonText text (Some refusal) nodes players
text_refused text refusal other nodes players lifted = record {
  automaton = lifted.automaton;
  read = lifted.read;
  lifts = automaton_refused lifted.automaton refusal other nodes players lifted.lifts;
}
