-- Which words over names the letters of a symbolic word admit.
use Rattle.std.specs.Prelude.{ℕ, Bool, false, not, ◌&&◌, ◌||◌, IsTrue, List, [], slice_index_or}
use Rattle.omega_hoa_label.specs.Raw.{RawLabelTree, alias, conjunction, constant}
use Rattle.omega_hoa_label.specs.Raw.{disjunction, group, negation, proposition}
use Rattle.omega_lang_lasso_word.specs.Fitting.{along}
use Rattle.omega_lang_lasso_word.specs.declared.symbolic_word.SymbolicWord.{SymbolicWord}

-- whether a letter is true if exactly these propositions hold; letters have no aliases
abbrev pub is_true_letter : (ℕ → Bool) → RawLabelTree → Bool
is_true_letter held (constant value) = value
is_true_letter held (proposition number) = held number
is_true_letter held (alias name) = false
is_true_letter held (negation part) = not (is_true_letter held part)
is_true_letter held (conjunction left right) = is_true_letter held left && is_true_letter held right
is_true_letter held (disjunction left right) = is_true_letter held left || is_true_letter held right
is_true_letter held (group part) = is_true_letter held part

-- whether a letter over these names is true if the names hold of which `held` says so
abbrev pub holds : List (List ℕ) → (List ℕ → Bool) → RawLabelTree → Bool
holds names held letter = is_true_letter (λ number. held (slice_index_or names number [])) letter

-- a symbolic word admits a word over names, which says for each index which names hold there: at each index the letter
-- there is true
abbrev pub Admits : SymbolicWord → (ℕ → List ℕ → Bool) → Type 0
Admits symbolic word = (i : ℕ)
    → IsTrue (holds symbolic.names (word i) (along symbolic.first symbolic.others symbolic.stem i))
