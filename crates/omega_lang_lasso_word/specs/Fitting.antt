-- Words over names that fit the text of a word.
use Rattle.std.specs.Prelude.{◌≡◌, ℕ, zero, suc, Bool, true, List, [], ◌∷◌}
use Rattle.omega_lang_lasso_word.specs.Form.{word_form}
use Rattle.omega_lang_lasso_word.specs.Formulas.{HasTruth, formula}

-- the text of a word with these letters: those of the stem, and those of the cycle, `first` and the others, in braces
abbrev pub text_of_letters : List (List ℕ) → List ℕ → List (List ℕ) → List ℕ
text_of_letters stem first others = word_form (λ letter. letter) stem (first ∷ others)

-- what stands at an index of an infinite sequence: a stem, and then `first` and `others` for ever
abbrev pub along : {A : Type 0} → A → List A → List A → ℕ → A
along first others [] zero = first
along first others [] (suc i) = along first others others i
along first others (x ∷ xs) zero = x
along first others (x ∷ xs) (suc i) = along first others xs i

-- a word, which says for each index which names hold there, fits a text: the text is that of letters, and at each index
-- the letter there is a formula that is true
pub record Fits (text : List ℕ) (word : ℕ → List ℕ → Bool) : Type 0 where
  pub stem : List (List ℕ)
  pub first : List ℕ
  pub others : List (List ℕ)
  pub written : text ≡ text_of_letters stem first others
  pub true_there : (i : ℕ) → HasTruth (word i) formula (along first others stem i) true
