-- What `empty --word` writes of a text, and what `accepts` answers to that word and the same text.
use Rattle.std.specs.Prelude.{◌≡◌, ◌⊎◌, ◌++◌, ◌≤◌, ℕ, Bool, true, false, List, Some, length, codes}
use Rattle.omega_text.specs.Limits.{most_text}
use Rattle.omega_text.specs.declared.refusal.Refusal.{Refusal}
use Rattle.omega_text.specs.declared.refusal.Refusal.TheVariants.{Task}
use Rattle.omega_text.specs.declared.refusal.task.TaskFault.TheVariants.{NotDeterministic}
use Rattle.omega_hoa_automaton.specs.Automaton.{Description}
use Rattle.omega_hoa.specs.Alone.{IsAutomatonText}
use Rattle.omega_io.specs.declared.exit.Exit.{Exit}
use Rattle.omega_io.specs.declared.refused.Refused.{Refused}
use Rattle.omega_io.specs.declared.refused.Which.TheVariants.{Input}
use Rattle.omega_lang_lasso_text.specs.Lines.{lasso_part}
use Rattle.omega_answers_empty.specs.declared.lines.Lines.{Lines}
use Rattle.omega_answers_empty.specs.empty.Answer.{IsEmptyAnswer, IsEmptySearchAnswer}
use Rattle.omega_lang_lasso_word.specs.declared.symbolic_word.SymbolicWord.{SymbolicWord}
use Rattle.omega_lang_word_text.specs.Text.{IsWordRefusal, IsWordText}
use Rattle.omega_lang_inclusion.specs.OneWord.{HasOpenLetter}
use Rattle.omega_lang_inclusion.specs.WordRefusing.{HasChoice}
use Rattle.omega_io.specs.Answer.{IsYes}
use Rattle.omega_answers_inclusion.specs.Accepts.{IsAcceptsAnswer, IsAcceptsRefused}

-- of a lasso the line `word` is wanted, and not that of its run
abbrev pub word_alone : Lines
word_alone = record { word = true; run = false }

-- an answer of `empty --word` to a text: by a search, or by lifting within some budget
abbrev pub IsWordAnswer : (text output : List ℕ) → Type 0
IsWordAnswer text output = IsEmptySearchAnswer text word_alone output
    ⊎ ((budget : ℕ) × IsEmptyAnswer text budget word_alone output)

-- such an answer ends with a line `word` after the lines of the lasso, and this is the word in it
pub record IsWrittenWord (text word : List ℕ) : Type 0 where
  pub output : List ℕ
  pub answered : IsWordAnswer text output
  pub line : output ≡ lasso_part output ++ (codes "word " ++ (word ++ codes "\n"))

-- the refusal is for a choice of the automaton of the text, and a letter of the word leaves one of its propositions
-- open
pub record IsOpenChoice (word text : List ℕ) (refusal : Refusal) : Type 0 where
  pub symbolic : SymbolicWord
  pub word_read : IsWordText word symbolic
  pub automaton : Description
  pub automaton_read : IsAutomatonText text automaton
  pub state : ℕ
  pub choice : HasChoice automaton state
  pub open_letter : HasOpenLetter symbolic automaton
  pub refusal_is : refusal ≡ Task (NotDeterministic state)

-- `accepts` reads the word within the limit of texts, and answers nothing but `yes` to it and the text. No refusal is
-- about the word, and one about the text is for a choice where a letter leaves something open
pub record IsAcceptedWord (word text : List ℕ) : Type 0 where
  pub read : length word ≤ most_text → (symbolic : SymbolicWord) × IsWordText word symbolic
  pub unrefused : (refusal : Refusal) → length word ≤ most_text → ¬ IsWordRefusal word refusal
  pub yes : (explain : Bool) (exit : Exit) (output : List ℕ)
      → IsAcceptsAnswer word text explain exit output → IsYes exit output
  pub open_choice : (refused : Refused) → IsAcceptsRefused word text refused
      → refused.text ≡ Some Input → IsOpenChoice word text refused.refusal

-- so it is with each word that `empty --word` writes of a text, and this text
abbrev pub WrittenWordsAreAccepted : Type 0
WrittenWordsAreAccepted = (text word : List ℕ) → IsWrittenWord text word → IsAcceptedWord word text
