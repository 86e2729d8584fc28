-- Formulas that are read and asked one after the other: their answers, and the first that is refused.
use Rattle.std.specs.Prelude.{◌≡◌, ◌+◌, ◌++◌, ℕ, List, [], ◌∷◌, Option, None, Some, length}
use Rattle.std.specs.List.{AllZip, flat_map}
use Rattle.omega_text.specs.declared.refusal.Refusal.{Refusal}
use Rattle.omega_text.specs.declared.refusal.Refusal.TheVariants.{Memory}
use Rattle.omega_io.specs.declared.exit.Exit.{Exit}
use Rattle.omega_io.specs.declared.exit.Exit.TheVariants.{Done, No}
use Rattle.omega_ltl_formula.specs.Table.{NumberedFormula}
use Rattle.omega_ltl_text.specs.Text.{IsFormulaTextRefusal}
use Rattle.omega_answers.specs.TwoTexts.{OfBoth}
use Rattle.omega_answers_formula.specs.Formula.{IsFormulaOfText}
use Rattle.omega_answers_formula.specs.declared.refused_formulas.About.{About}
use Rattle.omega_answers_formula.specs.declared.refused_formulas.About.TheVariants.{Formula, Input, Question}
use Rattle.omega_answers_formula.specs.declared.refused_formulas.RefusedFormulas.{RefusedFormulas}

-- ---- answers

-- how the program ends after an answer after others: as `No` if one of them is `no`
abbrev pub later_exit : (before own : Exit) → Exit
later_exit before Done = before
later_exit before No = No

-- how the program ends after answers, each with how it ends after that answer alone: as `No` if one of them is `no`
abbrev pub exit_after : List (Exit × List ℕ) → Exit
exit_after [] = Done
exit_after (answer ∷ answers) = later_exit (exit_after answers) answer.0

-- each of these has its answer, the texts of the answers are the output, one after the other, and the program ends as
-- `No` exactly if one of the answers is `no`
pub record AreAnswered {A : Type 0} (Answers : A → Exit → List ℕ → Type 0) (asked : List A)
    (exit : Exit) (output : List ℕ) : Type 0 where
  pub answers : List (Exit × List ℕ)
  pub each : AllZip (λ one answer. Answers one answer.0 answer.1) asked answers
  pub texts : output ≡ flat_map (λ answer. answer.1) answers
  pub ends : exit ≡ exit_after answers

-- ---- refusals

-- this is the element with this number, and these stand before it; the first has the number 1
pub record IsNumbered {A : Type 0} (all : List A) (number : ℕ) (before : List A) (one : A) : Type 0 where
  pub rest : List A
  pub split : all ≡ before ++ one ∷ rest
  pub counted : number ≡ length before + 1

-- the text with this number is the first that is not that of a formula
pub record IsFirstUnread (texts : List (List ℕ)) (number : ℕ) (refusal : Refusal) : Type 0 where
  pub before : List (List ℕ)
  pub text : List ℕ
  pub numbered : IsNumbered texts number before text
  pub formulas : List NumberedFormula
  pub read : AllZip IsFormulaOfText before formulas
  pub refused : IsFormulaTextRefusal text refusal

-- the formula with this number is the first that is refused: those before it have answers
pub record IsFirstRefused (Answers : NumberedFormula → Exit → List ℕ → Type 0)
    (Refuses : NumberedFormula → Refusal → Type 0) (formulas : List NumberedFormula)
    (number : ℕ) (refusal : Refusal) : Type 0 where
  pub before : List NumberedFormula
  pub formula : NumberedFormula
  pub numbered : IsNumbered formulas number before formula
  pub exit : Exit
  pub output : List ℕ
  pub answered : AreAnswered Answers before exit output
  pub refused : Refuses formula refusal

-- a refusal, by what it is about: the text of the formula with a number, the question with a number, or the input; want
-- of memory is about nothing
abbrev pub IsAbout : (text question : ℕ → Refusal → Type 0) → (input : Refusal → Type 0)
    → Option About → Refusal → Type 0
IsAbout text question input None refusal = refusal ≡ Memory
IsAbout text question input (Some (Formula number)) refusal = text number refusal
IsAbout text question input (Some Input) refusal = input refusal
IsAbout text question input (Some (Question number)) refusal = question number refusal

abbrev pub IsRefusedBy : (text question : ℕ → Refusal → Type 0) → (input : Refusal → Type 0)
    → RefusedFormulas → Type 0
IsRefusedBy text question input refused = IsAbout text question input refused.about refused.refusal

-- one of the texts is not that of a formula, or memory is wanting
abbrev pub IsReadingRefused : List (List ℕ) → RefusedFormulas → Type 0
IsReadingRefused texts = IsRefusedBy (IsFirstUnread texts) (λ number refusal. ⊥) (λ refusal. ⊥)

-- one of the formulas is refused, or memory is wanting
abbrev pub IsAskingRefused : (NumberedFormula → Exit → List ℕ → Type 0)
    → (NumberedFormula → Refusal → Type 0) → List NumberedFormula → RefusedFormulas → Type 0
IsAskingRefused Answers Refuses formulas =
    IsRefusedBy (λ number refusal. ⊥) (IsFirstRefused Answers Refuses formulas) (λ refusal. ⊥)

-- the texts are those of formulas, and the input is not what it is to be
pub record IsInputUnread (RefusesInput : Refusal → Type 0) (texts : List (List ℕ))
    (refusal : Refusal) : Type 0 where
  pub formulas : List NumberedFormula
  pub read : AllZip IsFormulaOfText texts formulas
  pub refused : RefusesInput refusal

-- the first refusal of texts of formulas and of an input: of the texts in turn, then of the input, then of the formulas
-- in turn, each asked of what the input is; or memory is wanting
abbrev pub AreRefused : {B : Type 0} (IsOfInput : B → Type 0) (RefusesInput : Refusal → Type 0)
    (Answers : B → NumberedFormula → Exit → List ℕ → Type 0)
    (Refuses : B → NumberedFormula → Refusal → Type 0) → List (List ℕ) → RefusedFormulas → Type 0
AreRefused IsOfInput RefusesInput Answers Refuses texts =
    IsRefusedBy (IsFirstUnread texts)
    (λ number refusal. OfBoth (AllZip IsFormulaOfText texts) IsOfInput
    (λ formulas input. IsFirstRefused (Answers input) (Refuses input) formulas number refusal))
    (IsInputUnread RefusesInput texts)
