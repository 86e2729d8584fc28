-- The word of a lasso as text, as Spot writes words: the letters of the stem, and those of the cycle in braces.
use Rattle.std.specs.Prelude.{ℕ, List}
use Rattle.omega_hoa_automaton.specs.Automaton.{Description}
use Rattle.omega_lang_lasso_word.specs.Form.{word_form}
use Rattle.omega_lang_lasso_word.specs.Letters.{letter_text}

-- the word of a lasso
abbrev pub word_text : Description → List ℕ → List ℕ → List ℕ
word_text a stem cycle = word_form (letter_text a) stem cycle
