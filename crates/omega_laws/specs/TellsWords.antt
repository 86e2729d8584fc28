-- Answers that show by words why they are given.
use Rattle.std.specs.Prelude.{◌≡◌, ◌++◌, ℕ, Bool, List, codes}
use Rattle.omega_io.specs.Answer.{explained}
use Rattle.omega_lang_lasso_word.specs.Fitting.{Fits}
use Rattle.omega_text.specs.NamedWords.{NamedWord}

-- there is a text of words: some word fits it, and each that fits it is wanted. The output is the answer, and if an
-- explanation is asked for then these lines, others, and in the last line the text of the words
pub record TellsWords (IsWanted : NamedWord → Type 0) (answer lines : List ℕ) (explain : Bool)
    (output : List ℕ) : Type 0 where
  pub words : List ℕ
  pub fitting : NamedWord
  pub fits : Fits words fitting
  pub wanted : (word : NamedWord) → Fits words word → IsWanted word
  pub others : List ℕ
  pub told : output
      ≡ answer ++ explained explain (lines ++ (others ++ (codes "word " ++ (words ++ codes "\n"))))
