-- Laws of canonical texts of automata, whatever writes or reads them.
use Rattle.std.specs.Prelude.{ℕ, ◌≤◌, ◌⊎◌, List, length, Contains}
use Rattle.omega_text.specs.Cut.{IsCut}
use Rattle.omega_text.specs.Limits.{most_text}
use Rattle.omega_text.specs.hoa.Format.{hoa_format}
use Rattle.omega_hoa_syntax.specs.Symbols.{Tokens}
use Rattle.omega_hoa_syntax.specs.declared.raw_automaton.RawAutomaton.{RawAutomaton}
use Rattle.omega_hoa_automaton.specs.Automaton.{Description}
use Rattle.omega_hoa.specs.Alone.{IsAutomatonText}
use Rattle.omega_hoa.specs.Segment.{IsRawOf}
use Rattle.omega_hoa.specs.Stream.{IsStreamText}
use Rattle.omega_hoa.specs.declared.item.Item.{Item}
use Rattle.omega_hoa.specs.declared.item.Item.TheVariants.{Automaton}
use Rattle.omega_canon.specs.Canonical.{canonical_automaton}
use Rattle.omega_canon.specs.Stream.{automata_in, canonical_stream}
use Rattle.omega_hoa_round_trips.specs.Writable.{IsWritableAutomaton}
use Rattle.omega_hoa_round_trips.specs.Written.{written_automaton}

-- the text can be cut into tokens, and they spell an automaton that is written so
pub record IsRawText (source : List ℕ) (raw : RawAutomaton) : Type 0 where
  pub lexemes : Tokens
  pub cut : IsCut hoa_format source lexemes
  pub written : IsRawOf lexemes raw

-- the automaton was read: a text or an item of a stream is this automaton
abbrev pub WasRead : Description → Type 0
WasRead a = ((source : List ℕ) × IsAutomatonText source a) ⊎ ((source : List ℕ)
    × (items : List Item) × IsStreamText source items × Contains items (Automaton a))

-- an automaton that was read can be written
abbrev pub ReadAutomataAreWritable : Type 0
ReadAutomataAreWritable = (a : Description) → WasRead a → IsWritableAutomaton a

-- the canonical text of an automaton that can be written is that of the automaton as it is written
abbrev pub CanonicalTextsAreSpelled : Type 0
CanonicalTextsAreSpelled = (a : Description) → IsWritableAutomaton a
    → IsRawText (canonical_automaton a) (written_automaton a)

-- the canonical text of an automaton that was read is, within the limit of texts, the text of that automaton
abbrev pub CanonicalTextsAreRead : Type 0
CanonicalTextsAreRead = (a : Description) → WasRead a → length (canonical_automaton a) ≤ most_text
    → IsAutomatonText (canonical_automaton a) a

-- the canonical text of a stream is, within the limit of texts, that of a stream with the same automata
abbrev pub CanonicalStreamsAreRead : Type 0
CanonicalStreamsAreRead = (source : List ℕ) (items : List Item) → IsStreamText source items
    → length (canonical_stream items) ≤ most_text
    → IsStreamText (canonical_stream items) (automata_in items)
