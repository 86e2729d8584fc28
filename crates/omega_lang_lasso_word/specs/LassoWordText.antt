-- Words along a lasso whose letters are conjunctions, and their text, as Spot writes words: the letters of the stem,
-- and those of the cycle in braces.
use Rattle.std.specs.Prelude.{ℕ, List}
use Rattle.omega_hoa_label.specs.Label.{LabelTree}
use Rattle.omega_lang_lasso_word.specs.Form.{word_form}
use Rattle.omega_lang_lasso_word.specs.Letters.{conjunction_words}
use Rattle.omega_lang_lasso_word.specs.declared.lasso_word.LassoWord.{LassoWord}

-- the words with the letters of a stem and a cycle, each as its conjuncts, over these names
abbrev pub words_over : List (List ℕ) → List (List LabelTree) → List (List LabelTree) → LassoWord
words_over its_names before around = record { names = its_names; stem = before; cycle = around }

-- the text of the words
abbrev pub lasso_word_text : LassoWord → List ℕ
lasso_word_text word = word_form (conjunction_words word.names) word.stem word.cycle
