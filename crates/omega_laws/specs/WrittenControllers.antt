-- What `realize --controller` writes of a specification as a controller, and what `verify --specification` answers to
-- it, with the same specification.
use Rattle.std.specs.Prelude.{◌≡◌, ◌≤◌, ℕ, Bool, List, None, length}
use Rattle.omega_text.specs.Limits.{most_text}
use Rattle.omega_hoa_automaton.specs.Automaton.{Description}
use Rattle.omega_hoa.specs.Alone.{IsAutomatonText}
use Rattle.omega_io.specs.declared.exit.Exit.{Exit}
use Rattle.omega_io.specs.declared.exit.Exit.TheVariants.{Done}
use Rattle.omega_io.specs.declared.refused.Refused.{Refused}
use Rattle.omega_text.specs.Omniscience.{LimitedPrincipleOfOmniscience}
use Rattle.omega_answers_synth.specs.Winner.{IsWinnerAnswer}
use Rattle.omega_io.specs.Answer.{IsYes}
use Rattle.omega_answers_synth.specs.Verify.{IsControllerAnswer, IsControllerRefused}

-- a text is what is written of a specification as a controller, and it is within the limit of texts
pub record IsWrittenController (specification controller : List ℕ) : Type 0 where
  pub answer : IsWinnerAnswer specification Done controller
  pub short : length controller ≤ most_text

-- such a text is that of an automaton. If each test recurs or ceases, as it does by the excluded middle, each answer to
-- it is `yes`
abbrev pub WrittenControllersAreJudgedRight : Type 0
WrittenControllersAreJudgedRight =
    (specification controller : List ℕ) → IsWrittenController specification controller
    → ((a : Description) × IsAutomatonText controller a)
    × (LimitedPrincipleOfOmniscience
    → (output : List ℕ) (explain : Bool) (exit : Exit)
    → IsControllerAnswer specification controller explain exit output → IsYes exit output)

-- no refusal is about one of the two texts: memory can be wanting, or room within the limits of the judge
abbrev pub WrittenControllersAreNotAtFault : Type 0
WrittenControllersAreNotAtFault = (specification controller : List ℕ) (refused : Refused)
    → IsWrittenController specification controller
    → IsControllerRefused specification controller refused → refused.text ≡ None
