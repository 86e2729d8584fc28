-- The reports of the runs of `realize`, also if it goes on to be refused.
use Rattle.std.proofs.Common.{◌≡◌, ◌≢◌, ℕ, List, None, Option, Some, Result, IfErr, inl, inr}
use Rattle.omega_text.specs.declared.refusal.Refusal.{Refusal}
use Rattle.omega_text.specs.declared.refusal.Refusal.TheVariants.{Memory, Task}
use Rattle.omega_text.specs.declared.refusal.task.TaskFault.TheVariants.{Budget, Controllable}
use Rattle.omega_hoa_automaton.specs.Automaton.{Description}
use Rattle.omega_text.specs.Cases.{or_memory}
use Rattle.omega_solve.specs.budget.Observing.{IsObserved, refusal_in}
use Rattle.omega_solve.specs.declared.budget.observing.Progress.{Progress}
use Rattle.omega_solve.proofs.within_budget.Observed.{made_refused, observed_after}
use Rattle.omega_synth_controllers.specs.Controllable.{IsMisstated, IsStated}
use Rattle.omega_hoa.specs.Alone.{IsAutomatonText}
use Rattle.omega_game_values.specs.Game.{Node}
use Rattle.omega_game_values.specs.declared.player.Player.{Player}
use Rattle.omega_synth_realize.specs.Lifting.{LiftsAutomaton}
use Rattle.omega_answers.proofs.Refusals.{text_spares}
use Rattle.omega_answers_synth.specs.Observing.{LiftsText}
use Rattle.omega_answers_synth.specs.private.Question.{IsQuestionRefusal}

-- no item is refused for the budget
item_spares : (stated : Type 0) → IsMisstated stated (Task Budget) → ⊥
item_spares stated h = let e : Budget ≡ Controllable = h.0 in cc

-- so no text is that states no question
pub unasked_spares : (text : List ℕ) → or_memory (IsQuestionRefusal text) (Task Budget) → ⊥
unasked_spares text (inl unread) = text_spares text unread
unasked_spares text (inr item) = item_spares _ item.holds

-- runs for an automaton are runs for its text
pub of_text : (text : List ℕ) (automaton : Description) (controlled : List ℕ) (refusal : Option Refusal) (nodes : List Node) (players : List Player)
    → IsAutomatonText text automaton → IsStated automaton controlled → LiftsAutomaton automaton controlled refusal nodes players
    → LiftsText text refusal nodes players
of_text text automaton controlled refusal nodes players read stated lifted = record {
  automaton = automaton;
  read = read;
  lifts = record { controlled = controlled; stated = stated; lifts = lifted };
}

-- the runs stay made, whatever refuses it later but the budget
runs_refused : (automaton : Description) (controlled : List ℕ) (refusal : Refusal) → refusal ≢ Task Budget
    → (nodes : List Node) (players : List Player) → LiftsAutomaton automaton controlled None nodes players
    → LiftsAutomaton automaton controlled (Some refusal) nodes players
runs_refused automaton controlled refusal other nodes players (inl none) = inl none
runs_refused automaton controlled refusal other nodes players (inr parted) = inr (record {
  rounds = parted.rounds;
  letters = parted.letters;
  start = parted.start;
  parted = parted.parted;
  is = (parted.is.0, elim parted.is.1 [ inl one ↦ inl (made_refused _ players refusal other one) | inr two ↦ inr (made_refused _ players refusal other two) ]);
})

-- they stay reported if there is no memory for what is written after them
pub written_after : {A L : Type 0} (text : List ℕ) (tells : Progress → L → L → Type 0) (every budget : ℕ) (result : Result A Refusal) (before after : L)
    → IfErr result (λ refusal. refusal ≡ Memory) → IsObserved (LiftsText text) None tells every budget before after
    → IsObserved (LiftsText text) (refusal_in result) tells every budget before after
written_after text tells every budget result before after memory observed =
    observed_after (LiftsText text) tells every budget result (λ refusal. refusal ≡ Memory) before after memory (λ e. cc)
    (λ refusal other nodes players lifted. let stated = lifted.lifts in
    of_text text lifted.automaton stated.controlled (Some refusal) nodes players lifted.read stated.stated
    (runs_refused lifted.automaton stated.controlled refusal other nodes players stated.lifts))
    observed
