-- The automaton of a symbolic word as a text writes it (HOA v1, header and body): a state for each letter, in a row
-- that leads back to the first letter of the cycle. Each run is accepted.
use Rattle.std.specs.Prelude.{ℕ, ◌+◌, ◌<◌, ◌≤◌, ◌==◌, true, if◌then◌else◌}
use Rattle.std.specs.Prelude.{List, [], ◌∷◌, ◌++◌, length, None, Some, codes}
use Rattle.omega_hoa_automaton.specs.Automaton.{Description}
use Rattle.omega_hoa_automaton.specs.Limits.{most_propositions}
use Rattle.omega_hoa_automaton.specs.Meaning.{Means}
use Rattle.omega_hoa_automaton.specs.Faults.{BreaksLimit}
use Rattle.omega_hoa_edges.specs.Fitting.{IsLarge}
use Rattle.omega_hoa_edges.specs.Limits.{most_states}
use Rattle.omega_hoa_acceptance.specs.Raw.{constant}
use Rattle.omega_hoa_label.specs.Raw.{RawLabelTree}
use Rattle.omega_hoa_syntax.specs.declared.raw_automaton.RawAutomaton.{RawAutomaton}
use Rattle.omega_hoa_syntax.specs.declared.raw_item.RawItem.{RawItem}
use Rattle.omega_hoa_syntax.specs.declared.raw_item.RawItem.TheVariants as item
use Rattle.omega_hoa_syntax.specs.declared.raw_state.RawState.{RawState}
use Rattle.omega_lang_lasso_word.specs.declared.symbolic_word.SymbolicWord.{SymbolicWord}
use Rattle.omega_text.specs.declared.refusal.Refusal.{Refusal}

-- the state after the one with this number: the next one, or after the last of `count` the one with the number `back`
abbrev pub next_state : (count back number : ℕ) → ℕ
next_state count back number = if (number + 1) == count then back else number + 1

-- the state of a letter, with one edge
abbrev pub letter_state : (number next : ℕ) → RawLabelTree → RawState
letter_state number next letter = record {
  label = None;
  number = number;
  name = None;
  marks = None;
  edges = record { label = Some letter; targets = next ∷ []; marks = None } ∷ [];
}

-- the states of letters, with numbers from `number` on
abbrev pub letter_states : (count back number : ℕ) → List RawLabelTree → List RawState
letter_states count back number [] = []
letter_states count back number (letter ∷ letters) =
    letter_state number (next_state count back number) letter
    ∷ letter_states count back (number + 1) letters

-- the header of an automaton with as many states, which accepts each run
abbrev pub written_items : ℕ → List (List ℕ) → List RawItem
written_items count names =
    item.States count ∷ item.Start (0 ∷ []) ∷ item.Propositions (length names) names
    ∷ item.Acceptance 0 (constant true) ∷ []

-- how many letters a word has
abbrev pub letter_count : SymbolicWord → ℕ
letter_count word = length word.stem + length word.others + 1

-- the letters of a word
abbrev pub letters_of : SymbolicWord → List RawLabelTree
letters_of word = word.stem ++ word.first ∷ word.others

-- the written automaton of a word
abbrev pub written_word : SymbolicWord → RawAutomaton
written_word word = record {
  version = codes "v1";
  items = written_items (letter_count word) word.names;
  states = letter_states (letter_count word) (length word.stem) 0 (letters_of word);
}

-- the automaton of a word: what the written one means
abbrev pub IsWordAutomaton : SymbolicWord → Description → Type 0
IsWordAutomaton word a = Means (written_word word) a

-- a word has no automaton: it has over `most_states` letters or over `most_propositions` names, or the written
-- automaton breaks another limit
pub data HasNoAutomaton (word : SymbolicWord) : Type 0 where
  too_long : most_states ≤ length word.stem + length word.others → HasNoAutomaton word
  too_many_names : most_propositions < length word.names → HasNoAutomaton word
  breaks_limit : BreaksLimit (written_word word) → HasNoAutomaton word

-- `TooLarge` if a word has no automaton, or want of memory
abbrev pub IsOversized : SymbolicWord → Refusal → Type 0
IsOversized word = IsLarge (HasNoAutomaton word)
