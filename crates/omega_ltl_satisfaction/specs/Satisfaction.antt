-- Whether each word that an automaton accepts satisfies a formula, and if not, words that show it. A proposition of the
-- automaton and one of the formula that have one name are the same (HOA v1, AP).
use Rattle.std.specs.List.{AllByRecursion}
use Rattle.omega_hoa_automaton.specs.Automaton.{Description}
use Rattle.omega_lang_intersection.specs.Intersection.{IsExample}
use Rattle.omega_lang_intersection.specs.declared.answer.Example.{Example}
use Rattle.omega_lang_lasso_word.specs.Laws.{HasStrings}
use Rattle.omega_lang_word_laws.specs.NamedWords.{AcceptsNamed}
use Rattle.omega_ltl_formula.specs.Formula.{FormulaTree}
use Rattle.omega_ltl_formula.specs.Meaning.{Satisfies}
use Rattle.omega_ltl_formula.specs.Table.{NumberedFormula, tree_of}
use Rattle.omega_text.specs.NamedWords.{NamedWord}
use Rattle.omega_text.specs.Omniscience.{LimitedPrincipleOfOmniscience}
use Rattle.omega_text.specs.hoa.Forms.{IsQuotable}
use Rattle.omega_ltl_satisfaction.specs.declared.satisfaction.Satisfaction.{Satisfaction}
use Rattle.omega_ltl_satisfaction.specs.declared.satisfaction.Satisfaction.TheVariants.{NotSatisfied}
use Rattle.omega_ltl_satisfaction.specs.declared.satisfaction.Satisfaction.TheVariants.{Satisfied}

-- each word over names that an automaton accepts satisfies a formula
abbrev pub AllSatisfy : Description → FormulaTree → Type 0
AllSatisfy a formula = (word : NamedWord) → AcceptsNamed a word → Satisfies formula word

-- a word over names is accepted by an automaton and does not satisfy a formula
pub record IsUnsatisfying (a : Description) (formula : FormulaTree) (word : NamedWord) : Type 0 where
  pub accepted : AcceptsNamed a word
  pub not_satisfied : ¬ Satisfies formula word

-- the names of a formula are strings, as in each text
abbrev pub IsOverStrings : NumberedFormula → Type 0
IsOverStrings formula = AllByRecursion IsQuotable formula.table.names

-- words along an accepting lasso of an automaton, each of which it accepts and none of which satisfies a formula
abbrev pub IsUnsatisfyingExample : Description → NumberedFormula → Example → Type 0
IsUnsatisfyingExample a formula =
    IsExample a (HasStrings a × IsOverStrings formula) (IsUnsatisfying a (tree_of formula))

-- an answer is right: `Satisfied` only if, by the limited principle of omniscience, each word that the automaton
-- accepts satisfies the formula; any other answer is a counterexample, without a premise
abbrev pub IsSatisfaction : Description → NumberedFormula → Satisfaction → Type 0
IsSatisfaction a formula Satisfied = LimitedPrincipleOfOmniscience → AllSatisfy a (tree_of formula)
IsSatisfaction a formula (NotSatisfied example) = IsUnsatisfyingExample a formula example
