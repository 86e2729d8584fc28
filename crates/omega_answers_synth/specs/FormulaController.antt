-- The answer of `verify -f` for the text of a formula, which is that of a file, the names that are given, and the text
-- of an automaton: whether the automaton is a controller for the formula.
use Rattle.std.specs.Prelude.{◌≡◌, ◌⊎◌, Bool, List, ℕ, Option, Some}
use Rattle.omega_text.specs.declared.refusal.Refusal.{Refusal}
use Rattle.omega_text.specs.declared.refusal.Refusal.TheVariants.{Memory, Task}
use Rattle.omega_text.specs.declared.refusal.task.TaskFault.TheVariants.{Controllable}
use Rattle.omega_hoa_automaton.specs.Automaton.{Description}
use Rattle.omega_io.specs.Answer.{IsReply}
use Rattle.omega_io.specs.Refused.{about_none}
use Rattle.omega_io.specs.declared.exit.Exit.{Exit}
use Rattle.omega_io.specs.declared.refused.Refused.{Refused}
use Rattle.omega_io.specs.declared.refused.Which.{Which}
use Rattle.omega_io.specs.declared.refused.Which.TheVariants.{Input}
use Rattle.omega_io.specs.declared.answer.Answer.{Answer}
use Rattle.omega_answers_formula.specs.Satisfies.{IsFormulaOrAutomatonUnread, OfFormulaAndAutomaton}
use Rattle.omega_ltl_formula.specs.Table.{NumberedFormula}
use Rattle.omega_synth_check.specs.Refusing.{IsReadable}
use Rattle.omega_synth_check.specs.declared.judgement.Judgement.{Judgement}
use Rattle.omega_synth_check.specs.declared.judgement.Judgement.TheVariants as told
use Rattle.omega_synth_formula.specs.Judging.{IsFormulaJudgement}
use Rattle.omega_synth_formula.specs.Refusing.{IsFormulaJudgeRefusal}
use Rattle.omega_synth_formula.specs.declared.judgement.FormulaJudgement.{FormulaJudgement}
use Rattle.omega_synth_formula.specs.declared.judgement.FormulaJudgement.TheVariants.{Controls, NoStart}
use Rattle.omega_synth_formula.specs.declared.judgement.FormulaJudgement.TheVariants.{NotSatisfied}
use Rattle.omega_synth_formula.specs.declared.judgement.FormulaJudgement.TheVariants.{Unanswered}
use Rattle.omega_answers_synth.specs.Counter.{counter_text}
use Rattle.omega_answers_synth.specs.Outputs.{AreNotOutputs, AreOutputs, IsRefusedWithLists, NameLists, OfOutputs}
use Rattle.omega_answers_synth.specs.Outputs.{output_numbers}
use Rattle.omega_answers_synth.specs.Reason.{judgement_answer}

-- the judgement for a specification that is told alike: a word that does not satisfy the formula as one that the
-- specification does not accept
abbrev pub judgement_told : FormulaJudgement → Judgement
judgement_told Controls = told.Controls
judgement_told NoStart = told.NoStart
judgement_told (Unanswered lack) = told.Unanswered lack
judgement_told (NotSatisfied example) = told.NotAccepted example

-- `yes`, or `no`, explained by what the automaton lacks
abbrev pub formula_judgement_answer : (explain : Bool) → (controller : Description)
    → (outs : List (List ℕ)) → FormulaJudgement → Answer
formula_judgement_answer explain controller outs judgement =
    judgement_answer explain controller (output_numbers controller outs) (judgement_told judgement)

-- what is written of a formula and an automaton is right: `yes` if it is a controller for the formula, where the system
-- controls the propositions that are outputs, and else `no` with the reason
pub record IsFormulaControllerVerdict (formula : NumberedFormula) (outs : List (List ℕ))
    (controller : Description) (explain : Bool) (exit : Exit) (output : List ℕ) : Type 0 where
  pub outputs : AreOutputs outs controller
  pub readable : IsReadable controller
  pub judgement : FormulaJudgement
  pub right : IsFormulaJudgement formula controller (output_numbers controller outs) judgement
  pub reply : IsReply (formula_judgement_answer explain controller outs judgement) exit output

-- so it is with the lists of names that are given
abbrev pub IsNamedControllerVerdict : NumberedFormula → NameLists → (controller : Description)
    → (explain : Bool) → Exit → List ℕ → Type 0
IsNamedControllerVerdict formula lists controller explain exit output = OfOutputs formula lists
    (λ outs. IsFormulaControllerVerdict formula outs controller explain exit output)

-- the answer of `verify -f`: the texts are those of a formula and an automaton, and what is written of the two is right
abbrev pub IsFormulaControllerAnswer : (file : List ℕ) → NameLists → (input : List ℕ)
    → (explain : Bool) → Exit → List ℕ → Type 0
IsFormulaControllerAnswer file lists input explain exit output =
    OfFormulaAndAutomaton (λ formula controller.
    IsNamedControllerVerdict formula lists controller explain exit output) file input

-- the refusal for a formula, its outputs and an automaton, and the text that it is about: that of the automaton's item,
-- then that of the judge, whose universal branching and whose acceptance that is not `all` are the automaton's
pub data IsFormulaPairRefusal (formula : NumberedFormula) (outs : List (List ℕ))
    (controller : Description) : Option Which → Refusal → Type 0 where
  not_outputs : AreNotOutputs outs controller
      → IsFormulaPairRefusal formula outs controller (Some Input) (Task Controllable)
  not_judged : (refusal : Refusal) → AreOutputs outs controller
      → IsFormulaJudgeRefusal formula controller (output_numbers controller outs) refusal
      → IsFormulaPairRefusal formula outs controller (counter_text refusal) refusal

-- the two are refused so, or memory is
abbrev pub RefusesFormulaController : NumberedFormula → (outs : List (List ℕ)) → (controller : Description)
    → Refused → Type 0
RefusesFormulaController formula outs controller refused = (refused ≡ about_none Memory)
    ⊎ IsFormulaPairRefusal formula outs controller refused.text refused.refusal

-- the lists do not part the names of the formula, or else the two are refused so
abbrev pub RefusesNamedController : NumberedFormula → NameLists → (controller : Description)
    → Refused → Type 0
RefusesNamedController formula lists controller = IsRefusedWithLists formula lists
    (λ outs. RefusesFormulaController formula outs controller)

-- the refusal of `verify -f`: that of one of the texts, or else that of the two
abbrev pub IsFormulaControllerRefused : (file : List ℕ) → NameLists → (input : List ℕ)
    → Refused → Type 0
IsFormulaControllerRefused file lists input refused = IsFormulaOrAutomatonUnread file input refused
    ⊎ OfFormulaAndAutomaton (λ formula controller.
    RefusesNamedController formula lists controller refused) file input
