-- An automaton that is judged for a formula: it is deterministic, and accepts exactly the words that satisfy the
-- formula.
use Rattle.std.specs.Prelude.{◌≡◌, ℕ}
use Rattle.omega_hoa_automaton.specs.Automaton.{Description}
use Rattle.omega_hoa_edges.specs.Determinism.{IsDeterministic}
use Rattle.omega_lang_intersection.specs.declared.answer.Example.{Example}
use Rattle.omega_lang_lasso_word.specs.declared.lasso_word.LassoWord.{LassoWord}
use Rattle.omega_ltl_formula.specs.Formula.{FormulaTree}
use Rattle.omega_ltl_formula.specs.Table.{NumberedFormula}
use Rattle.omega_ltl_satisfaction.specs.Satisfaction.{IsUnsatisfyingExample}
use Rattle.omega_text.specs.Omniscience.{LimitedPrincipleOfOmniscience}
use Rattle.omega_text.specs.declared.refusal.Refusal.{Refusal}
use Rattle.omega_text.specs.declared.refusal.Refusal.TheVariants.{Task}
use Rattle.omega_text.specs.declared.refusal.task.TaskFault.TheVariants.{NotDeterministic, UniversalBranch}
use Rattle.omega_text.specs.declared.refusal.task.TaskFault.TheVariants.{Unjudged}
use Rattle.omega_ltl_equality.specs.Equality.{AcceptsExactly, AreMissing}
use Rattle.omega_ltl_equality.specs.Refusing.{IsFormulaEqualityRefusal}

-- an automaton is judged: it is deterministic, and, by the limited principle of omniscience, exact
pub record IsJudged (formula : FormulaTree) (a : Description) : Type 0 where
  pub deterministic : IsDeterministic a
  pub exact : LimitedPrincipleOfOmniscience → AcceptsExactly a formula

-- an automaton is not what was asked for: it is not deterministic, or it accepts a word that does not satisfy the
-- formula, or does not accept one that does, without a premise
pub data IsNotAsked (a : Description) (formula : NumberedFormula) : Type 0 where
  not_deterministic : ¬ IsDeterministic a → IsNotAsked a formula
  excess : (example : Example) → IsUnsatisfyingExample a formula example → IsNotAsked a formula
  missing : (words : LassoWord) → AreMissing a formula words → IsNotAsked a formula

-- a refusal is for no choice: neither for one of a start or of edges, nor for universal branching
pub record IsForNoChoice (refusal : Refusal) : Type 0 where
  pub no_choice : (state : ℕ) → ¬ (refusal ≡ Task (NotDeterministic state))
  pub no_branch : ¬ (refusal ≡ Task UniversalBranch)

-- the refusal of a judge: `Unjudged` if the automaton is not what was asked for, or else another one than for a choice
pub data IsJudgingRefusal (a : Description) (formula : NumberedFormula) (refusal : Refusal) : Type 0 where
  unjudged : refusal ≡ Task Unjudged → IsNotAsked a formula → IsJudgingRefusal a formula refusal
  not_decided : IsForNoChoice refusal → IsFormulaEqualityRefusal a formula refusal
      → IsJudgingRefusal a formula refusal
