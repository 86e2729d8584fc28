-- Why `realize` is refused: the text or its item, or else the question.
use Rattle.std.proofs.Common.{List, ℕ, inl, inr}
use Rattle.omega_text.specs.Cases.{or_memory}
use Rattle.omega_text.specs.declared.refusal.Refusal.{Refusal}
use Rattle.omega_hoa_automaton.specs.Automaton.{Description}
use Rattle.omega_synth_controllers.specs.Controllable.{IsStated}
use Rattle.omega_hoa.specs.Alone.{IsAutomatonText}
use Rattle.omega_synth_realize.specs.Gaming.{IsRealizabilityGameRefusal}
use Rattle.omega_synth_realize.specs.Refusing.{IsRealizabilityRefusal}
use Rattle.omega_answers.proofs.OneText.{automaton_refused}
use Rattle.omega_answers.proofs.Refusals.{memory_or}
use Rattle.omega_answers_synth.specs.Game.{IsGameRefusal, IsUngamedAutomaton}
use Rattle.omega_answers_synth.specs.Refusing.{IsRealizeRefusal, IsRefusalOfAutomaton}
use Rattle.omega_answers_synth.specs.private.Question.{IsQuestionRefusal}

-- the answer is refused if no question is stated
pub unasked_refused : (text : List ℕ) (budget : ℕ) (refusal : Refusal) → or_memory (IsQuestionRefusal text) refusal
    → or_memory (IsRealizeRefusal text budget) refusal
unasked_refused text budget refusal h = memory_or (IsQuestionRefusal text) (IsRealizeRefusal text budget)
    (λ other is. elim is [
      | inl unread ↦ inl unread
      | inr item ↦ inr (record { automaton = item.automaton; read = item.read; holds = inl item.holds })
    ])
    refusal h

-- and if the question is refused
pub question_refused : (text : List ℕ) (automaton : Description) (controlled : List ℕ) (budget : ℕ) (refusal : Refusal)
    → IsAutomatonText text automaton → IsStated automaton controlled → IsRealizabilityRefusal automaton controlled budget refusal
    → or_memory (IsRealizeRefusal text budget) refusal
question_refused text automaton controlled budget refusal read stated refused =
    automaton_refused (λ a other. IsRefusalOfAutomaton a budget other) text automaton read refusal
    (inr (record { controlled = controlled; stated = stated; refused = refused }))

-- so is the game
pub unasked_ungamed : (text : List ℕ) (refusal : Refusal) → or_memory (IsQuestionRefusal text) refusal → or_memory (IsGameRefusal text) refusal
unasked_ungamed text refusal h = memory_or (IsQuestionRefusal text) (IsGameRefusal text)
    (λ other is. elim is [
      | inl unread ↦ inl unread
      | inr item ↦ inr (record { automaton = item.automaton; read = item.read; holds = inl item.holds })
    ])
    refusal h

pub question_ungamed : (text : List ℕ) (automaton : Description) (controlled : List ℕ) (refusal : Refusal)
    → IsAutomatonText text automaton → IsStated automaton controlled → IsRealizabilityGameRefusal automaton controlled refusal
    → or_memory (IsGameRefusal text) refusal
question_ungamed text automaton controlled refusal read stated refused =
    automaton_refused IsUngamedAutomaton text automaton read refusal
    (inr (record { controlled = controlled; stated = stated; refused = refused }))
