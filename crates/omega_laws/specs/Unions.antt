-- Laws of unions: which words they accept, and that two automata have one.
use Rattle.std.specs.Prelude.{◌≡◌, ◌↔◌, ◌⊎◌, ◌≤◌, ℕ, Bool, false, List, length}
use Rattle.omega_text.specs.Limits.{most_text}
use Rattle.omega_answers_automaton.specs.Join.{IsJoinAnswer}
use Rattle.omega_hoa_automaton.specs.Automaton.{Description, IsAutomaton}
use Rattle.omega_hoa_automaton.specs.Branching.{has_universal_branching}
use Rattle.omega_lang_runs.specs.Words.{IsAccepted}
use Rattle.omega_lang_product.specs.Joining.{part_of_word}
use Rattle.omega_lang_product.specs.Pairs.{first_view, second_view}
use Rattle.omega_lang_union.specs.Union.{IsUnion}
use Rattle.omega_text.specs.NamedWords.{NamedWord}
use Rattle.omega_lang_word_laws.specs.NamedWords.{AcceptsNamed}
use Rattle.omega_laws.specs.TextWords.{IsText, TextAccepts}

-- the union of two automata without universal branching accepts a word over the propositions of both exactly if one of
-- the two accepts its part of the word
abbrev pub UnionsAcceptEither : Type 0
UnionsAcceptEither = (one other a : Description) (word : ℕ → ℕ → Bool) → IsAutomaton one
    → IsAutomaton other → IsAutomaton a → has_universal_branching one ≡ false
    → has_universal_branching other ≡ false → IsUnion one other a
    → IsAccepted a word ↔ (IsAccepted one (part_of_word (first_view one other).places word)
    ⊎ IsAccepted other (part_of_word (second_view one other).places word))

-- so by names: the union accepts a word over names exactly if one of the two does
abbrev pub UnionsAcceptEitherByName : Type 0
UnionsAcceptEitherByName = (one other a : Description) (word : NamedWord) → IsAutomaton one
    → IsAutomaton other → IsAutomaton a → has_universal_branching one ≡ false
    → has_universal_branching other ≡ false → IsUnion one other a
    → AcceptsNamed a word ↔ (AcceptsNamed one word ⊎ AcceptsNamed other word)

-- what `join` writes for two texts is, within the limit of texts, the text of an automaton; it accepts a word exactly
-- if one of the texts does
abbrev pub JoinedTextsAcceptEither : Type 0
JoinedTextsAcceptEither =
    (file input output : List ℕ) → IsJoinAnswer file input output → length output ≤ most_text
    → IsText output
    × ((word : NamedWord) → TextAccepts output word ↔ (TextAccepts file word ⊎ TextAccepts input word))

-- two automata have at most one union
abbrev pub UnionsAreOne : Type 0
UnionsAreOne = (one other a b : Description) → IsUnion one other a → IsUnion one other b → a ≡ b
