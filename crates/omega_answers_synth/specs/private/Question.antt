-- The question whether an automaton is realizable, as a text states it.
use Rattle.std.specs.Prelude.{List, ℕ}
use Rattle.omega_text.specs.declared.refusal.Refusal.{Refusal}
use Rattle.omega_synth_controllers.specs.Controllable.{HasStated, IsMisstated, IsStated}
use Rattle.omega_hoa.specs.Alone.{IsAutomatonText}
use Rattle.omega_answers.specs.OneAutomaton.{IsRefusalOfText}
use Rattle.omega_answers_synth.specs.declared.question.Question.{Question}

-- the automaton of the text, and the propositions that its item lists
pub record IsQuestion (text : List ℕ) (question : Question) : Type 0 where
  pub read : IsAutomatonText text question.automaton
  pub stated : IsStated question.automaton question.controlled

-- the refusal of a text that states no question: that of the text, or else that of the item
abbrev pub IsQuestionRefusal : List ℕ → Refusal → Type 0
IsQuestionRefusal = IsRefusalOfText (λ a. IsMisstated (HasStated a))
