-- The answer of `satisfies --word` for the text of a formula and that of a word: whether each word that the letters
-- admit satisfies the formula.
use Rattle.std.specs.Prelude.{Bool, List, ℕ}
use Rattle.omega_text.specs.declared.refusal.Refusal.{Refusal}
use Rattle.omega_io.specs.Answer.{IsReply, no_for}
use Rattle.omega_io.specs.declared.answer.Answer.{Answer}
use Rattle.omega_io.specs.declared.answer.Answer.TheVariants.{Yes}
use Rattle.omega_io.specs.declared.exit.Exit.{Exit}
use Rattle.omega_lang_lasso_word.specs.declared.symbolic_word.SymbolicWord.{SymbolicWord}
use Rattle.omega_lang_word_text.specs.Text.{IsWordRefusal, IsWordText}
use Rattle.omega_answers.specs.TwoTexts.{OfBoth}
use Rattle.omega_answers_inclusion.specs.Example.{word_line}
use Rattle.omega_ltl_formula.specs.Table.{NumberedFormula}
use Rattle.omega_ltl_satisfaction.specs.WordRefusing.{IsWordSatisfactionRefusal}
use Rattle.omega_ltl_satisfaction.specs.WordSatisfaction.{IsWordSatisfaction}
use Rattle.omega_ltl_satisfaction.specs.declared.word_satisfaction.WordSatisfaction.{WordSatisfaction}
use Rattle.omega_ltl_satisfaction.specs.declared.word_satisfaction.WordSatisfaction.TheVariants as word
use Rattle.omega_answers_formula.specs.Formula.{IsFormulaOfText}
use Rattle.omega_answers_formula.specs.InTurn.{AreAnswered, AreRefused}
use Rattle.omega_answers_formula.specs.declared.refused_formulas.RefusedFormulas.{RefusedFormulas}

-- `yes`, or `no`, explained by words that do not satisfy the formula
abbrev pub word_answer : (explain : Bool) → WordSatisfaction → Answer
word_answer explain word.Satisfied = Yes
word_answer explain (word.NotSatisfied words) = no_for explain (word_line words)

-- what is written of a formula and a word is right: `yes` if each word that is admitted satisfies the formula, and else
-- `no` with words that show that it does not
pub record IsWordVerdict (formula : NumberedFormula) (symbolic : SymbolicWord) (explain : Bool)
    (exit : Exit) (output : List ℕ) : Type 0 where
  pub answer : WordSatisfaction
  pub right : IsWordSatisfaction symbolic formula answer
  pub reply : IsReply (word_answer explain answer) exit output

-- the texts are those of a formula and of a word, and this holds of the two
abbrev pub OfFormulaAndWord : (NumberedFormula → SymbolicWord → Type 0)
    → (formula text : List ℕ) → Type 0
OfFormulaAndWord Holds formula text = OfBoth (IsFormulaOfText formula) (IsWordText text) Holds

-- the answer of `satisfies --word`: what is written of the formula and the word is right
abbrev pub IsSatisfiesWordAnswer : (formula text : List ℕ) (explain : Bool) → Exit → List ℕ → Type 0
IsSatisfiesWordAnswer formula text explain exit output =
    OfFormulaAndWord (λ read symbolic. IsWordVerdict read symbolic explain exit output) formula text

-- the answers of `satisfies --word` to the texts of formulas, one after the other
abbrev pub AreSatisfiesWordAnswers : (formulas : List (List ℕ)) → (text : List ℕ) → (explain : Bool)
    → Exit → List ℕ → Type 0
AreSatisfiesWordAnswers formulas text explain =
    AreAnswered (λ formula. IsSatisfiesWordAnswer formula text explain) formulas

-- what is written of a formula and the word of a text is right
abbrev pub IsWordTextVerdict : (text : List ℕ) (explain : Bool) → NumberedFormula → Exit → List ℕ → Type 0
IsWordTextVerdict text explain formula exit output = (symbolic : SymbolicWord)
    × IsWordText text symbolic × IsWordVerdict formula symbolic explain exit output

-- a formula is refused with the word of a text
abbrev pub IsWordTextRefused : (text : List ℕ) → NumberedFormula → Refusal → Type 0
IsWordTextRefused text formula refusal = (symbolic : SymbolicWord)
    × IsWordText text symbolic × IsWordSatisfactionRefusal symbolic formula refusal

-- the refusal of `satisfies --word` for the texts of formulas: that of the first of them that is refused, or else that
-- of the word's text, or else that of the first formula that is refused with the word
abbrev pub AreSatisfiesWordRefused : (formulas : List (List ℕ)) → (text : List ℕ) → (explain : Bool)
    → RefusedFormulas → Type 0
AreSatisfiesWordRefused formulas text explain = AreRefused (IsWordText text) (IsWordRefusal text)
    (λ symbolic. IsWordTextVerdict text explain) (λ symbolic. IsWordTextRefused text) formulas
