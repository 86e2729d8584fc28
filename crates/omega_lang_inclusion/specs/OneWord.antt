-- Symbolic words of which an automaton sees at most one word: each letter fixes each proposition of the automaton.
use Rattle.std.specs.Prelude.{◌≡◌, ℕ, Bool, true, false, IsTrue, List, Contains}
use Rattle.omega_hoa_automaton.specs.Automaton.{Description}
use Rattle.omega_hoa_label.specs.Raw.{RawLabelTree}
use Rattle.omega_lang_lasso_word.specs.Admitted.{holds}
use Rattle.omega_lang_lasso_word.specs.declared.symbolic_word.SymbolicWord.{SymbolicWord}
use Rattle.omega_lang_inclusion.specs.Written.{letters_of}

-- a letter over these names fixes a name: the name holds wherever the letter is true, or nowhere there
abbrev pub Fixes : List (List ℕ) → RawLabelTree → List ℕ → Type 0
Fixes names letter name = (held other : List ℕ → Bool) → IsTrue (holds names held letter)
    → IsTrue (holds names other letter) → held name ≡ other name

-- each letter of a word fixes each proposition of an automaton
abbrev pub IsOneWordFor : SymbolicWord → Description → Type 0
IsOneWordFor word a = (letter : RawLabelTree) (name : List ℕ) → Contains (letters_of word) letter
    → Contains a.propositions name → Fixes word.names letter name

-- a letter over these names leaves a name open: it is true somewhere with the name, and somewhere without it
pub record LeavesOpen (names : List (List ℕ)) (letter : RawLabelTree) (name : List ℕ) : Type 0 where
  pub held : List ℕ → Bool
  pub held_true : IsTrue (holds names held letter)
  pub with_name : held name ≡ true
  pub other : List ℕ → Bool
  pub other_true : IsTrue (holds names other letter)
  pub without_name : other name ≡ false

-- some letter of a word leaves a proposition of an automaton open
pub record HasOpenLetter (word : SymbolicWord) (a : Description) : Type 0 where
  pub letter : RawLabelTree
  pub listed : Contains (letters_of word) letter
  pub name : List ℕ
  pub of_automaton : Contains a.propositions name
  pub leaves_open : LeavesOpen word.names letter name
