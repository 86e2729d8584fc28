-- The answer of `verify --specification` for the texts of two automata, that of a file, the specification, and that of
-- the input: whether the automaton of the input is a controller for the specification.
use Rattle.std.specs.Prelude.{◌≡◌, ◌⊎◌, Bool, true, if◌then◌else◌, List, ℕ, Option, None, Some}
use Rattle.omega_text.specs.declared.refusal.Refusal.{Refusal}
use Rattle.omega_text.specs.declared.refusal.Refusal.TheVariants.{Memory, Task}
use Rattle.omega_text.specs.declared.refusal.task.TaskFault.TheVariants.{Controllable, NotDeterministic}
use Rattle.omega_text.specs.declared.refusal.task.TaskFault.TheVariants.{NotParity, UniversalBranch}
use Rattle.omega_hoa_automaton.specs.Automaton.{Description}
use Rattle.omega_hoa_automaton.specs.Branching.{has_universal_branching}
use Rattle.omega_synth_controllers.specs.Controllable.{HasControlled, IsControlled, has_item}
use Rattle.omega_synth_check.specs.Judging.{IsJudgement}
use Rattle.omega_synth_check.specs.Refusing.{AreJudged, IsJudgeRefusal}
use Rattle.omega_synth_check.specs.declared.judgement.Judgement.{Judgement}
use Rattle.omega_io.specs.declared.exit.Exit.{Exit}
use Rattle.omega_io.specs.Refused.{about_none}
use Rattle.omega_io.specs.declared.refused.Refused.{Refused}
use Rattle.omega_io.specs.declared.refused.Which.{Which}
use Rattle.omega_io.specs.declared.refused.Which.TheVariants.{File, Input}
use Rattle.omega_io.specs.Answer.{IsReply}
use Rattle.omega_answers.specs.TwoAutomata.{IsRefusalOfTexts, OfAutomata}
use Rattle.omega_answers_synth.specs.Parting.{AreAlike, AreControlledAlike}
use Rattle.omega_answers_synth.specs.Reason.{judgement_answer}

-- what is written of a specification and an automaton is right: `yes` if it is a controller for the specification, and
-- else `no` with the reason
pub record IsControllerVerdict (specification controller : Description) (explain : Bool)
    (exit : Exit) (output : List ℕ) : Type 0 where
  pub controlled : List ℕ
  pub parted : AreControlledAlike specification controller controlled
  pub judged : AreJudged specification controller
  pub judgement : Judgement
  pub right : IsJudgement specification controller controlled judgement
  pub reply : IsReply (judgement_answer explain controller controlled judgement) exit output

-- the answer of `verify --specification`: both texts are those of automata, and what is written of the two is right
abbrev pub IsControllerAnswer : (file input : List ℕ) (explain : Bool) → Exit → List ℕ → Type 0
IsControllerAnswer file input explain exit output =
    OfAutomata (λ specification controller.
    IsControllerVerdict specification controller explain exit output) file input

-- the text that a refusal of the judge is about: a choice is one of the specification, and an acceptance that is not
-- `all` one of the controller. Universal branching is one of the controller if it has any. All others are about neither
abbrev pub text_about : (controller : Description) → Refusal → Option Which
text_about controller (Task (NotDeterministic state)) = Some File
text_about controller (Task NotParity) = Some Input
text_about controller (Task UniversalBranch) =
    if has_universal_branching controller then Some Input else Some File
text_about controller refusal = None

-- the refusal for two automata, and the text that it is about: the item of the specification, then that of the
-- controller, then that the two say different things of one name, then that of the judge
pub data IsPairRefusal (specification controller : Description) : Option Which
    → Refusal → Type 0 where
  specification_misstated : ¬ HasControlled specification
      → IsPairRefusal specification controller (Some File) (Task Controllable)
  controller_misstated :
      HasControlled specification → ¬ HasControlled controller
      → IsPairRefusal specification controller (Some Input) (Task Controllable)
  parted_unlike : (stated controlled : List ℕ) → IsControlled specification stated
      → IsControlled controller controlled → has_item specification ≡ true
      → ¬ AreAlike specification.propositions controller.propositions stated controlled
      → IsPairRefusal specification controller (Some Input) (Task Controllable)
  not_judged :
      (controlled : List ℕ) (refusal : Refusal) → AreControlledAlike specification controller controlled
      → IsJudgeRefusal specification controller controlled refusal
      → IsPairRefusal specification controller (text_about controller refusal) refusal

-- the two automata are refused so, or memory is
abbrev pub RefusesController : (specification controller : Description) → Refused → Type 0
RefusesController specification controller refused = (refused ≡ about_none Memory)
    ⊎ IsPairRefusal specification controller refused.text refused.refusal

-- the refusal of `verify --specification`: that of one of the texts, or else that of the two automata
abbrev pub IsControllerRefused : (file input : List ℕ) → Refused → Type 0
IsControllerRefused = IsRefusalOfTexts RefusesController
