-- What was decided of the question whether an automaton is realizable.
use Rattle.std.specs.Prelude.{List, ℕ}
use Rattle.omega_synth_controllers.specs.Controllable.{IsStated}
use Rattle.omega_hoa.specs.Alone.{IsAutomatonText}
use Rattle.omega_synth_realize.specs.Realizing.{IsRealizability}
use Rattle.omega_synth_realize.specs.Refusing.{HasNoLargeGame, IsJudgeable}
use Rattle.omega_answers_synth.specs.declared.decided.Decided.{Decided}

-- the answer is right, where the system controls the propositions that the automaton's item lists
pub record IsDecidedRightly (decided : Decided) : Type 0 where
  pub stated : IsStated decided.question.automaton decided.question.controlled
  pub judgeable : IsJudgeable decided.question.automaton
  pub small : HasNoLargeGame decided.question.automaton decided.question.controlled
  pub realizability : IsRealizability decided.question.automaton
      decided.question.controlled decided.realizability

-- the automaton is that of the text
pub record IsDecidedText (text : List ℕ) (found : Decided) : Type 0 where
  pub read : IsAutomatonText text found.question.automaton
  pub decided : IsDecidedRightly found
