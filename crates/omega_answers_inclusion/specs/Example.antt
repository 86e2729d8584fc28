-- A counterexample as text: a lasso of the automaton that accepts, as `empty` writes it, and the words along it.
use Rattle.std.specs.Prelude.{List, ℕ, ◌++◌, codes}
use Rattle.omega_lang_intersection.specs.declared.answer.Example.{Example}
use Rattle.omega_lang_lasso_text.specs.Written.{lasso_text}
use Rattle.omega_lang_lasso_word.specs.LassoWordText.{lasso_word_text}
use Rattle.omega_lang_lasso_word.specs.declared.lasso_word.LassoWord.{LassoWord}

-- the line of words
abbrev pub word_line : LassoWord → List ℕ
word_line words = codes "word " ++ (lasso_word_text words ++ codes "\n")

-- the lines of a lasso, and the line of its words
abbrev pub example_lines : Example → List ℕ
example_lines example = lasso_text example.stem example.cycle ++ word_line example.word
