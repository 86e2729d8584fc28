-- Laws of the texts of words, whatever reads them.
use Rattle.std.specs.Prelude.{◌≡◌, ◌↔◌, ℕ, ◌≤◌, Bool, List, length}
use Rattle.std.specs.List.{AllByRecursion}
use Rattle.omega_lang_lasso_word.specs.Fitting.{Fits}
use Rattle.omega_lang_lasso_word.specs.Admitted.{Admits}
use Rattle.omega_lang_lasso_word.specs.declared.symbolic_word.SymbolicWord.{SymbolicWord}
use Rattle.omega_text.specs.Limits.{most_text}
use Rattle.omega_text.specs.declared.refusal.Refusal.{Refusal}
use Rattle.omega_text.specs.hoa.Forms.{IsQuotable}
use Rattle.omega_lang_word_text.specs.Text.{IsWordRefusal, IsWordText}

-- the names of a word that a text says are strings
abbrev pub NamesAreStrings : Type 0
NamesAreStrings = (source : List ℕ) (word : SymbolicWord) → IsWordText source word
    → AllByRecursion IsQuotable word.names

-- a text says at most one word
abbrev pub WordsOfTextsAreOne : Type 0
WordsOfTextsAreOne = (source : List ℕ) (one other : SymbolicWord) → IsWordText source one
    → IsWordText source other → one ≡ other

-- a text that says a word has no refusal
abbrev pub WordsAreNotRefused : Type 0
WordsAreNotRefused = (source : List ℕ) (word : SymbolicWord) (refusal : Refusal)
    → IsWordText source word → IsWordRefusal source refusal → ⊥

-- a text that some word fits is within the limit of texts read as a word, and this admits exactly the words that fit it
abbrev pub FittingTextsAreRead : Type 0
FittingTextsAreRead =
    (text : List ℕ) (named : ℕ → List ℕ → Bool) → Fits text named → length text ≤ most_text
    → (word : SymbolicWord) × IsWordText text word
    × ((other : ℕ → List ℕ → Bool) → Admits word other ↔ Fits text other)
