-- Laws of the canonical texts of complements.
use Rattle.std.specs.Prelude.{◌≤◌, ℕ, List, length}
use Rattle.omega_text.specs.Limits.{most_text}
use Rattle.omega_hoa_automaton.specs.Automaton.{Description}
use Rattle.omega_canon.specs.Canonical.{canonical_automaton}
use Rattle.omega_lang_complement.specs.Complement.{HasComplement, IsComplement}
use Rattle.omega_hoa.specs.Alone.{IsAutomatonText}
use Rattle.omega_hoa_round_trips.specs.Laws.{WasRead}
use Rattle.omega_answers_automaton.specs.Complement.{IsComplementAnswer}
use Rattle.omega_text.specs.NamedWords.{NamedWord}
use Rattle.omega_laws.specs.TextWords.{AreParted, IsText}

-- the canonical text of the complement of an automaton that was read is the text of that complement, if it is within
-- the limit of texts
abbrev pub ComplementsAreReadBack : Type 0
ComplementsAreReadBack =
    (a complement : Description) → WasRead a → HasComplement a → IsComplement a complement
    → length (canonical_automaton complement) ≤ most_text
    → IsAutomatonText (canonical_automaton complement) complement

-- what `complement` writes for a text is, within the limit of texts, the text of an automaton; the two texts part each
-- word
abbrev pub ComplementTextsAcceptTheRest : Type 0
ComplementTextsAcceptTheRest =
    (text output : List ℕ) → IsComplementAnswer text output → length output ≤ most_text
    → IsText output × ((word : NamedWord) → AreParted text output word)
