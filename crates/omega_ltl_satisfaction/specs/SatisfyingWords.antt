-- Whether an automaton accepts a word that satisfies a formula, and if so, words that show it. A proposition of the
-- automaton and one of the formula that have one name are the same (HOA v1, AP).
use Rattle.omega_hoa_automaton.specs.Automaton.{Description}
use Rattle.omega_lang_intersection.specs.Intersection.{IsExample}
use Rattle.omega_lang_intersection.specs.declared.answer.Example.{Example}
use Rattle.omega_lang_intersection.specs.declared.answer.Intersection.{Intersection}
use Rattle.omega_lang_intersection.specs.declared.answer.Intersection.TheVariants.{Common, Empty}
use Rattle.omega_lang_lasso_word.specs.Laws.{HasStrings}
use Rattle.omega_lang_word_laws.specs.NamedWords.{AcceptsNamed}
use Rattle.omega_ltl_formula.specs.Formula.{FormulaTree}
use Rattle.omega_ltl_formula.specs.Meaning.{Satisfies}
use Rattle.omega_ltl_formula.specs.Table.{NumberedFormula, tree_of}
use Rattle.omega_text.specs.NamedWords.{NamedWord}
use Rattle.omega_text.specs.Omniscience.{LimitedPrincipleOfOmniscience}
use Rattle.omega_ltl_satisfaction.specs.Satisfaction.{IsOverStrings}

-- no word over names that an automaton accepts satisfies a formula
abbrev pub NoneSatisfies : Description → FormulaTree → Type 0
NoneSatisfies a formula = (word : NamedWord) → AcceptsNamed a word → ¬ Satisfies formula word

-- a word over names is accepted by an automaton and satisfies a formula
pub record IsSatisfying (a : Description) (formula : FormulaTree) (word : NamedWord) : Type 0 where
  pub accepted : AcceptsNamed a word
  pub satisfied : Satisfies formula word

-- words along an accepting lasso of an automaton, each of which it accepts and each of which satisfies `whole`, a
-- formula over the names of another
abbrev pub IsWordsExample : Description → NumberedFormula → FormulaTree → Example → Type 0
IsWordsExample a formula whole =
    IsExample a (HasStrings a × IsOverStrings formula) (IsSatisfying a whole)

-- an answer is right for such a formula: `Empty` only if, by the limited principle of omniscience, no word that the
-- automaton accepts satisfies it; any other answer is an example, without a premise
abbrev pub AreWordsOf : Description → NumberedFormula → FormulaTree → Intersection → Type 0
AreWordsOf a formula whole Empty = LimitedPrincipleOfOmniscience → NoneSatisfies a whole
AreWordsOf a formula whole (Common example) = IsWordsExample a formula whole example

-- an answer is right for the formula itself
abbrev pub AreSatisfyingWords : Description → NumberedFormula → Intersection → Type 0
AreSatisfyingWords a formula = AreWordsOf a formula (tree_of formula)
