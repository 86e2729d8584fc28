-- Whether an automaton accepts exactly the words that satisfy a formula, and if not, words that show it. A proposition
-- of the automaton and one of the formula that have one name are the same (HOA v1, AP).
use Rattle.std.specs.Prelude.{◌≡◌, ◌↔◌, false}
use Rattle.omega_hoa_automaton.specs.Automaton.{Description}
use Rattle.omega_hoa_automaton.specs.Branching.{has_universal_branching}
use Rattle.omega_lang_complement.specs.Complement.{HasComplement}
use Rattle.omega_lang_lasso_word.specs.Fitting.{Fits}
use Rattle.omega_lang_lasso_word.specs.LassoWordText.{lasso_word_text}
use Rattle.omega_lang_lasso_word.specs.Laws.{HasStrings}
use Rattle.omega_lang_lasso_word.specs.declared.lasso_word.LassoWord.{LassoWord}
use Rattle.omega_lang_word_laws.specs.NamedWords.{AcceptsNamed}
use Rattle.omega_ltl_formula.specs.Formula.{FormulaTree}
use Rattle.omega_ltl_formula.specs.Meaning.{Satisfies}
use Rattle.omega_ltl_formula.specs.Table.{NumberedFormula, tree_of}
use Rattle.omega_ltl_satisfaction.specs.Satisfaction.{IsOverStrings, IsSatisfaction, IsUnsatisfyingExample}
use Rattle.omega_ltl_satisfaction.specs.declared.satisfaction.Satisfaction.TheVariants.{Satisfied}
use Rattle.omega_text.specs.NamedWords.{NamedWord}
use Rattle.omega_text.specs.Omniscience.{LimitedPrincipleOfOmniscience}
use Rattle.omega_ltl_equality.specs.declared.formula_equality.FormulaEquality.{FormulaEquality}
use Rattle.omega_ltl_equality.specs.declared.formula_equality.FormulaEquality.TheVariants.{Equal, Excess}
use Rattle.omega_ltl_equality.specs.declared.formula_equality.FormulaEquality.TheVariants.{Missing}

-- an automaton accepts a word over names exactly if the word satisfies a formula, for each word
abbrev pub AcceptsExactly : Description → FormulaTree → Type 0
AcceptsExactly a formula = (word : NamedWord) → AcceptsNamed a word ↔ Satisfies formula word

-- a word over names satisfies a formula, and an automaton does not accept it
pub record IsMissing (a : Description) (formula : FormulaTree) (word : NamedWord) : Type 0 where
  pub satisfied : Satisfies formula word
  pub not_accepted : ¬ AcceptsNamed a word

-- some such word fits the text of words, as does no word but such. Names are strings, as in each text
pub record AreMissing (a : Description) (formula : NumberedFormula) (words : LassoWord) : Type 0 where
  pub word : NamedWord
  pub missing : IsMissing a (tree_of formula) word
  pub fits : HasStrings a → IsOverStrings formula → Fits (lasso_word_text words) word
  pub all_missing : HasStrings a → IsOverStrings formula → (other : NamedWord)
      → Fits (lasso_word_text words) other → IsMissing a (tree_of formula) other

-- an answer is right: `Equal` only if, by the limited principle of omniscience, the automaton accepts exactly the words
-- that satisfy the formula; any other answer is a counterexample, without a premise
abbrev pub IsFormulaEquality : Description → NumberedFormula → FormulaEquality → Type 0
IsFormulaEquality a formula Equal = LimitedPrincipleOfOmniscience → AcceptsExactly a (tree_of formula)
IsFormulaEquality a formula (Excess example) = IsUnsatisfyingExample a formula example
IsFormulaEquality a formula (Missing words) =
    IsSatisfaction a formula Satisfied × AreMissing a formula words

-- what an answer presumes of the automaton: `Excess` that it has no universal branching, and any other answer that no
-- refusal of the complement applies to it, so that it is deterministic
abbrev pub IsGivenFor : Description → FormulaEquality → Type 0
IsGivenFor a Equal = HasComplement a
IsGivenFor a (Excess example) = has_universal_branching a ≡ false
IsGivenFor a (Missing words) = HasComplement a
