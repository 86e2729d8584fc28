-- Laws of the answers.
use Rattle.omega_hoa_automaton.specs.Automaton.{Description}
use Rattle.omega_lang_intersection.specs.declared.answer.Example.{Example}
use Rattle.omega_lang_word_laws.specs.NamedWords.{AcceptsNamed}
use Rattle.omega_ltl_formula.specs.Meaning.{Satisfies}
use Rattle.omega_ltl_formula.specs.Table.{NumberedFormula, tree_of}
use Rattle.omega_text.specs.NamedWords.{NamedWord}
use Rattle.omega_text.specs.Omniscience.{LimitedPrincipleOfOmniscience}
use Rattle.omega_ltl_satisfaction.specs.Satisfaction.{IsSatisfaction}
use Rattle.omega_ltl_satisfaction.specs.declared.satisfaction.Satisfaction.TheVariants.{NotSatisfied}
use Rattle.omega_ltl_satisfaction.specs.declared.satisfaction.Satisfaction.TheVariants.{Satisfied}

-- if `Satisfied` is right, each word that the automaton accepts satisfies the formula
abbrev pub YesMeansEveryWord : Type 0
YesMeansEveryWord = LimitedPrincipleOfOmniscience → (a : Description) (formula : NumberedFormula)
    → IsSatisfaction a formula Satisfied → (word : NamedWord) → AcceptsNamed a word
    → Satisfies (tree_of formula) word

-- not both answers are right
abbrev pub AnswersExcludeEachOther : Type 0
AnswersExcludeEachOther = LimitedPrincipleOfOmniscience
    → (a : Description) (formula : NumberedFormula) (example : Example)
    → IsSatisfaction a formula Satisfied → ¬ IsSatisfaction a formula (NotSatisfied example)
