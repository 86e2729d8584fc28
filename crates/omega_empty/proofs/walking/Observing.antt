-- The reports of a run in an emptiness game are reports of the automaton's run, also if it goes on to be refused.
use Rattle.std.proofs.Common.{◌≢◌, List, Option, None, Some, subst, sym}
use Rattle.omega_text.specs.declared.refusal.Refusal.{Refusal}
use Rattle.omega_text.specs.declared.refusal.Refusal.TheVariants.{Task}
use Rattle.omega_text.specs.declared.refusal.task.TaskFault.TheVariants.{Budget}
use Rattle.omega_hoa_automaton.specs.Automaton.{Description}
use Rattle.omega_game_values.specs.Game.{Node}
use Rattle.omega_game_values.specs.declared.player.Player.{Player}
use Rattle.omega_solve.proofs.within_budget.Observed.{made_refused}
use Rattle.omega_empty.specs.EmptinessGame.{IsEmptinessGame}
use Rattle.omega_empty.specs.Observing.{LiftsAutomaton}
use Rattle.omega_empty.specs.private.layout.Solving.{LiftsGame}

-- the run stays made, whatever refuses it later but the budget
pub automaton_refused : (automaton : Description) (refusal : Refusal) → refusal ≢ Task Budget
    → (nodes : List Node) (players : List Player) → LiftsAutomaton automaton None nodes players → LiftsAutomaton automaton (Some refusal) nodes players
automaton_refused automaton refusal other nodes players lifted = (lifted.0, made_refused _ players refusal other lifted.1)

-- a run in an emptiness game of the automaton is one of the automaton
pub automaton_lifted : (automaton : Description) (game : List Node) (refusal : Option Refusal) → IsEmptinessGame automaton game
    → (nodes : List Node) (players : List Player) → LiftsGame game refusal nodes players → LiftsAutomaton automaton refusal nodes players
automaton_lifted automaton game refusal is nodes players lifted = (subst (IsEmptinessGame automaton) (sym lifted.0) is, lifted.1)
