-- Laws of the answers of `realize -f` and of `verify -f`: no formula is both realizable and unrealizable, what is
-- written of a winner is judged to be one, and nothing fails.
use Rattle.std.specs.Prelude.{◌≡◌, Bool, List, ℕ}
use Rattle.omega_io.specs.Answer.{IsYes}
use Rattle.omega_io.specs.declared.exit.Exit.{Exit}
use Rattle.omega_io.specs.declared.exit.Exit.TheVariants.{Done, No}
use Rattle.omega_text.specs.Omniscience.{LimitedPrincipleOfOmniscience}
use Rattle.omega_text.specs.declared.refusal.Refusal.TheVariants.{Io}
use Rattle.omega_answers_synth.specs.FormulaController.{IsFormulaControllerAnswer}
use Rattle.omega_answers_synth.specs.FormulaCounter.{IsFormulaCounterAnswer}
use Rattle.omega_answers_synth.specs.FormulaRefusing.{IsFormulaRealizeRefusal}
use Rattle.omega_answers_synth.specs.FormulaWinner.{IsFormulaRealizeAnswer, IsFormulaWinnerAnswer}
use Rattle.omega_answers_synth.specs.Outputs.{NameLists}

-- by the limited principle of omniscience, one text with the same names has one answer: `realizable` excludes
-- `unrealizable`
abbrev pub FormulaAnswersAreOne : Type 0
FormulaAnswersAreOne = LimitedPrincipleOfOmniscience
    → (text one other : List ℕ) (lists : NameLists) (exit also : Exit)
    → IsFormulaRealizeAnswer text lists exit one → IsFormulaRealizeAnswer text lists also other
    → (exit ≡ also) × (one ≡ other)

-- by that principle, `verify -f` answers `yes` to each controller that is written for the formula with the same names
abbrev pub WrittenControllersAreJudged : Type 0
WrittenControllersAreJudged = LimitedPrincipleOfOmniscience
    → (text winner output : List ℕ) (lists : NameLists) (explain : Bool) (exit : Exit)
    → IsFormulaWinnerAnswer text lists Done winner
    → IsFormulaControllerAnswer text lists winner explain exit output → IsYes exit output

-- and `verify -f --counter-strategy` to each counter-strategy
abbrev pub WrittenCounterStrategiesAreJudged : Type 0
WrittenCounterStrategiesAreJudged = LimitedPrincipleOfOmniscience
    → (text winner output : List ℕ) (lists : NameLists) (explain : Bool) (exit : Exit)
    → IsFormulaWinnerAnswer text lists No winner
    → IsFormulaCounterAnswer text lists winner explain exit output → IsYes exit output

-- `realize -f` reads and writes nothing by itself, so no read or write of it fails
abbrev pub FormulaRefusalsAreNoFailures : Type 0
FormulaRefusalsAreNoFailures = (text : List ℕ) (lists : NameLists) → ¬ IsFormulaRealizeRefusal text lists Io
