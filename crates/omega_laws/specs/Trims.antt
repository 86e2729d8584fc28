-- Laws of trimmed automata: they accept the same words, and an automaton has one.
use Rattle.std.specs.Prelude.{◌≡◌, ◌↔◌, ◌≤◌, ℕ, Bool, false, List, length}
use Rattle.omega_text.specs.Limits.{most_text}
use Rattle.omega_answers_automaton.specs.Trim.{IsTrimAnswer}
use Rattle.omega_hoa_automaton.specs.Automaton.{Description, IsAutomaton}
use Rattle.omega_hoa_automaton.specs.Branching.{has_universal_branching}
use Rattle.omega_lang_runs.specs.Words.{IsAccepted}
use Rattle.omega_lang_trim.specs.Trimmed.{IsTrimmed}
use Rattle.omega_text.specs.NamedWords.{NamedWord}
use Rattle.omega_laws.specs.TextWords.{IsText, TextAccepts}

-- a word is accepted exactly if it is accepted without the useless states
abbrev pub TrimsAcceptTheSame : Type 0
TrimsAcceptTheSame = (a trim : Description) (word : ℕ → ℕ → Bool) → IsAutomaton a → IsAutomaton trim
    → has_universal_branching a ≡ false
    → IsTrimmed a trim → IsAccepted trim word ↔ IsAccepted a word

-- what `trim` writes for a text is, within the limit of texts, the text of an automaton, and accepts the same words
abbrev pub TrimmedTextsAcceptTheSame : Type 0
TrimmedTextsAcceptTheSame =
    (text output : List ℕ) → IsTrimAnswer text output → length output ≤ most_text
    → IsText output × ((word : NamedWord) → TextAccepts output word ↔ TextAccepts text word)

-- an automaton has at most one trimmed automaton
abbrev pub TrimsAreOne : Type 0
TrimsAreOne = (a one other : Description) → IsTrimmed a one → IsTrimmed a other → one ≡ other
