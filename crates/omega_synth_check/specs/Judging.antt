-- Controllers for a specification: automata that are judged for themselves, whoever made them. The system controls some
-- of their propositions, and the environment all others.
use Rattle.std.specs.Prelude.{ℕ, ◌<◌, Bool, List, Contains, length}
use Rattle.omega_hoa_automaton.specs.Automaton.{Description}
use Rattle.omega_lang_runs.specs.Lasso.{IsStart, IsStep, Leads}
use Rattle.omega_synth_controllers.specs.Controllers.{Answers}
use Rattle.omega_synth_game.specs.RoundsOf.{holds_in}
use Rattle.omega_lang_inclusion.specs.Containing.{AcceptsAllOf, IsContainment, IsCounterexample}
use Rattle.omega_lang_inclusion.specs.declared.containment.Containment.TheVariants.{Contained}
use Rattle.omega_synth_check.specs.declared.judgement.Judgement.{Judgement}
use Rattle.omega_synth_check.specs.declared.judgement.Judgement.TheVariants.{Controls, NoStart, NotAccepted}
use Rattle.omega_synth_check.specs.declared.judgement.Judgement.TheVariants.{Unanswered}
use Rattle.omega_synth_check.specs.declared.judgement.Lack.{Lack}

-- a state is reached: usable edges, given by number, lead to it from a start
pub record IsReached (controller : Description) (state : ℕ) : Type 0 where
  pub start : ℕ
  pub begins : IsStart controller start
  pub numbers : List ℕ
  pub leads : Leads controller start numbers state

-- an edge of the state answers the environment's letter
pub record IsAnswered (controller : Description) (controlled : List ℕ) (state : ℕ)
    (given : ℕ → Bool) : Type 0 where
  pub number : ℕ
  pub next : ℕ
  pub step : IsStep controller state number next
  pub answers : Answers controller controlled number given

-- there is a start, and each state that is reached answers each of the environment's letters
pub record AnswersAll (controller : Description) (controlled : List ℕ) : Type 0 where
  pub begins : (start : ℕ) × IsStart controller start
  pub answered : (state : ℕ) (given : ℕ → Bool) → IsReached controller state
      → IsAnswered controller controlled state given

-- a controller for a specification answers each letter, and the specification accepts each word that it accepts
pub record IsControllerFor (specification controller : Description)
    (controlled : List ℕ) : Type 0 where
  pub answers : AnswersAll controller controlled
  pub accepted : AcceptsAllOf controller specification

-- a letter lists propositions of the environment alone
abbrev pub AreInputs : Description → List ℕ → List ℕ → Type 0
AreInputs a controlled letter = (p : ℕ) → Contains letter p
    → (p < length a.propositions) × ¬ Contains controlled p

-- the stem leads from a start to the state, which does not answer the letter
pub record IsLack (controller : Description) (controlled : List ℕ) (lack : Lack) : Type 0 where
  pub start : ℕ
  pub begins : IsStart controller start
  pub leads : Leads controller start lack.stem lack.state
  pub inputs : AreInputs controller controlled lack.letter
  pub unanswered : ¬ IsAnswered controller controlled lack.state (holds_in lack.letter)

-- a judgement is right. `Controls`: a controller for the specification, where what is said of the words that it accepts
-- is what containment says of them. Any other judgement says why it is none, the words last: `NotAccepted` only if each
-- letter is answered
abbrev pub IsJudgement : (specification controller : Description) (controlled : List ℕ) → Judgement
    → Type 0
IsJudgement specification controller controlled Controls =
    AnswersAll controller controlled × IsContainment controller specification Contained
IsJudgement specification controller controlled NoStart = (start : ℕ) → ¬ IsStart controller start
IsJudgement specification controller controlled (Unanswered lack) = IsLack controller controlled lack
IsJudgement specification controller controlled (NotAccepted example) =
    AnswersAll controller controlled × IsCounterexample controller specification example
