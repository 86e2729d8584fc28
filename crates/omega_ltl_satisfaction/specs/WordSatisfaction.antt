-- Whether each word that a symbolic word admits satisfies a formula, and if not, words that show it.
use Rattle.omega_lang_inclusion.specs.Membership.{HasStringNames}
use Rattle.omega_lang_lasso_word.specs.Admitted.{Admits}
use Rattle.omega_lang_lasso_word.specs.Fitting.{Fits}
use Rattle.omega_lang_lasso_word.specs.LassoWordText.{lasso_word_text}
use Rattle.omega_lang_lasso_word.specs.declared.lasso_word.LassoWord.{LassoWord}
use Rattle.omega_lang_lasso_word.specs.declared.symbolic_word.SymbolicWord.{SymbolicWord}
use Rattle.omega_ltl_formula.specs.Formula.{FormulaTree}
use Rattle.omega_ltl_formula.specs.Meaning.{Satisfies}
use Rattle.omega_ltl_formula.specs.Table.{NumberedFormula, tree_of}
use Rattle.omega_text.specs.NamedWords.{NamedWord}
use Rattle.omega_text.specs.Omniscience.{LimitedPrincipleOfOmniscience}
use Rattle.omega_ltl_satisfaction.specs.Satisfaction.{IsOverStrings}
use Rattle.omega_ltl_satisfaction.specs.declared.word_satisfaction.WordSatisfaction.{WordSatisfaction}
use Rattle.omega_ltl_satisfaction.specs.declared.word_satisfaction.WordSatisfaction.TheVariants.{NotSatisfied}
use Rattle.omega_ltl_satisfaction.specs.declared.word_satisfaction.WordSatisfaction.TheVariants.{Satisfied}

-- each word over names that a symbolic word admits satisfies a formula
abbrev pub AllAdmittedSatisfy : SymbolicWord → FormulaTree → Type 0
AllAdmittedSatisfy word formula = (named : NamedWord) → Admits word named → Satisfies formula named

-- a word over names is admitted and does not satisfy a formula
pub record IsUnsatisfyingAdmitted (word : SymbolicWord) (formula : FormulaTree) (named : NamedWord)
    : Type 0 where
  pub admitted : Admits word named
  pub not_satisfied : ¬ Satisfies formula named

-- some admitted word does not satisfy a formula and fits the text of words, as does no word but such. Names are
-- strings, as in each text
pub record IsUnsatisfyingWord (word : SymbolicWord) (formula : NumberedFormula) (words : LassoWord)
    : Type 0 where
  pub named : NamedWord
  pub unsatisfying : IsUnsatisfyingAdmitted word (tree_of formula) named
  pub fits : HasStringNames word → IsOverStrings formula → Fits (lasso_word_text words) named
  pub all_unsatisfying :
      HasStringNames word → IsOverStrings formula → (other : NamedWord) → Fits (lasso_word_text words) other
      → IsUnsatisfyingAdmitted word (tree_of formula) other

-- an answer is right: `Satisfied` only if, by the limited principle of omniscience, each admitted word satisfies the
-- formula; any other answer is words that show, without a premise, that not each does
abbrev pub IsWordSatisfaction : SymbolicWord → NumberedFormula → WordSatisfaction → Type 0
IsWordSatisfaction word formula Satisfied =
    LimitedPrincipleOfOmniscience → AllAdmittedSatisfy word (tree_of formula)
IsWordSatisfaction word formula (NotSatisfied words) = IsUnsatisfyingWord word formula words
