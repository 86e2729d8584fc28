-- The answer of `verify` for the text of an automaton, that of a file, and the text of a lasso, that of the input.
use Rattle.std.specs.Prelude.{◌≡◌, ◌⊎◌, ◌++◌, ℕ, Bool, true, false, List, Option, None, Some, codes}
use Rattle.omega_text.specs.declared.refusal.Refusal.{Refusal}
use Rattle.omega_text.specs.declared.refusal.Refusal.TheVariants.{Task}
use Rattle.omega_text.specs.declared.refusal.task.TaskFault.TheVariants.{UniversalBranch}
use Rattle.omega_hoa_automaton.specs.Automaton.{Description}
use Rattle.omega_hoa_automaton.specs.Branching.{has_universal_branching}
use Rattle.omega_lang_runs.specs.Lasso.{IsAcceptingLasso}
use Rattle.omega_hoa.specs.Alone.{IsAutomatonText}
use Rattle.omega_io.specs.declared.exit.Exit.{Exit}
use Rattle.omega_io.specs.declared.refused.Refused.{Refused}
use Rattle.omega_io.specs.declared.refused.Which.TheVariants.{File}
use Rattle.omega_lang_lasso_check.specs.Fault.{IsLassoFault}
use Rattle.omega_lang_lasso_check.specs.FaultText.{fault_text}
use Rattle.omega_lang_lasso_check.specs.Refusing.{RefusesToJudge}
use Rattle.omega_lang_lasso_check.specs.declared.fault.LassoFault.{LassoFault}
use Rattle.omega_lang_lasso_text.specs.Lines.{IsLassoLines, IsLassoLinesRefusal}
use Rattle.omega_lang_lasso_text.specs.declared.lasso.LassoText.{LassoText}
use Rattle.omega_io.specs.Answer.{IsReply, no_for}
use Rattle.omega_answers.specs.OneAutomaton.{IsRefusalOfText}
use Rattle.omega_answers.specs.TwoTexts.{IsEitherRefused, OfBoth}
use Rattle.omega_io.specs.declared.answer.Answer.{Answer}
use Rattle.omega_io.specs.declared.answer.Answer.TheVariants.{Yes}

-- the line that says a fault
abbrev pub fault_line : LassoFault → List ℕ
fault_line fault = fault_text fault ++ codes "\n"

-- `yes` if a lasso has no fault, else `no`, explained by the fault
abbrev pub lasso_answer : (explain : Bool) → Option LassoFault → Answer
lasso_answer explain None = Yes
lasso_answer explain (Some fault) = no_for explain (fault_line fault)

-- the lasso is an accepting one of the automaton, and has no fault, or it is none, and this is its first fault
abbrev pub IsFaultOf : Description → LassoText → Option LassoFault → Type 0
IsFaultOf automaton lasso None = IsAcceptingLasso automaton lasso.stem lasso.cycle
IsFaultOf automaton lasso (Some fault) = (¬ IsAcceptingLasso automaton lasso.stem lasso.cycle)
    × IsLassoFault automaton lasso.stem lasso.cycle fault

-- what is written of an automaton and a lasso is right
pub record IsLassoVerdict (automaton : Description) (lasso : LassoText) (explain : Bool)
    (exit : Exit) (output : List ℕ) : Type 0 where
  pub fault : Option LassoFault
  pub right : IsFaultOf automaton lasso fault
  pub reply : IsReply (lasso_answer explain fault) exit output

-- the answer of `verify`: the texts are those of an automaton and of a lasso, with its word and its run or without, and
-- what is written of the two is right
abbrev pub IsLassoAnswer : (file input : List ℕ) (explain : Bool) → Exit → List ℕ → Type 0
IsLassoAnswer file input explain exit output = OfBoth (IsAutomatonText file) (IsLassoLines input)
    (λ automaton lasso. IsLassoVerdict automaton lasso explain exit output)

-- the text is that of an automaton without universal branching
abbrev pub IsPlainText : List ℕ → Description → Type 0
IsPlainText text automaton =
    IsAutomatonText text automaton × (has_universal_branching automaton ≡ false)

-- an automaton is refused for universal branching
abbrev pub RefusesBranching : Description → Refusal → Type 0
RefusesBranching automaton refusal =
    (has_universal_branching automaton ≡ true) × (refusal ≡ Task UniversalBranch)

-- the refusal of `verify`: that of the file, by its text or by universal branching, or else that of the text of the
-- input, or else that of the automaton by the judge of lassos, which is about the file
abbrev pub IsLassoRefused : (file input : List ℕ) → Refused → Type 0
IsLassoRefused file input refused =
    IsEitherRefused (IsPlainText file) (IsRefusalOfText RefusesBranching file)
    (IsLassoLinesRefusal input) refused
    ⊎ OfBoth (IsPlainText file) (IsLassoLines input) (λ automaton lasso.
    (refused.text ≡ Some File) × RefusesToJudge automaton lasso.stem lasso.cycle refused.refusal)
