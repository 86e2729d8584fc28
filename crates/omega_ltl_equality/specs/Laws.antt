-- Laws of the answers.
use Rattle.std.specs.Prelude.{◌↔◌}
use Rattle.omega_hoa_automaton.specs.Automaton.{Description}
use Rattle.omega_lang_word_laws.specs.NamedWords.{AcceptsNamed}
use Rattle.omega_ltl_formula.specs.Formula.{FormulaTree}
use Rattle.omega_ltl_formula.specs.Meaning.{Satisfies}
use Rattle.omega_ltl_formula.specs.Table.{NumberedFormula, tree_of}
use Rattle.omega_ltl_translation.specs.Translation.{IsTranslation}
use Rattle.omega_text.specs.NamedWords.{NamedWord}
use Rattle.omega_text.specs.Omniscience.{LimitedPrincipleOfOmniscience}
use Rattle.omega_ltl_equality.specs.Equality.{IsFormulaEquality}
use Rattle.omega_ltl_equality.specs.Judging.{IsJudged}
use Rattle.omega_ltl_equality.specs.declared.formula_equality.FormulaEquality.{FormulaEquality}
use Rattle.omega_ltl_equality.specs.declared.formula_equality.FormulaEquality.TheVariants.{Equal, Excess}
use Rattle.omega_ltl_equality.specs.declared.formula_equality.FormulaEquality.TheVariants.{Missing}

-- if `Equal` is right, the automaton accepts each word exactly if it satisfies the formula
abbrev pub EqualMeansTheSameWords : Type 0
EqualMeansTheSameWords = LimitedPrincipleOfOmniscience → (a : Description) (formula : NumberedFormula)
    → IsFormulaEquality a formula Equal
    → (word : NamedWord) → AcceptsNamed a word ↔ Satisfies (tree_of formula) word

-- two answers are of one kind
abbrev pub AreAlike : (one other : FormulaEquality) → Type 0
AreAlike Equal Equal = Unit {0}
AreAlike (Excess example) (Excess other) = Unit {0}
AreAlike (Missing words) (Missing others) = Unit {0}
AreAlike one other = ⊥

-- right answers are of one kind
abbrev pub AnswersExcludeEachOther : Type 0
AnswersExcludeEachOther = LimitedPrincipleOfOmniscience
    → (a : Description) (formula : NumberedFormula) (one other : FormulaEquality)
    → IsFormulaEquality a formula one → IsFormulaEquality a formula other → AreAlike one other

-- an automaton that is judged for a formula is one of the formula
abbrev pub JudgedAutomataAreTranslations : Type 0
JudgedAutomataAreTranslations = LimitedPrincipleOfOmniscience
    → (formula : FormulaTree) (a : Description) → IsJudged formula a → IsTranslation formula a
