-- Canonical texts of streams are read back.
use Rattle.std.proofs.Common.{ℕ, ◌≤◌, inl, inr, ◌++◌, List, [], ◌∷◌, length, refl, subst, arith}
use Rattle.std.specs.List.{AllByRecursion}
use Rattle.std.proofs.lemmas.List.Elements.{All-contains, All-from_recursion}
use Rattle.omega_text.specs.Limits.{most_text}
use Rattle.omega_text.specs.Reading.{IsTokenOf}
use Rattle.omega_text.specs.hoa.Format.{hoa_format}
use Rattle.omega_hoa_syntax.specs.Grammar.{automaton_symbols}
use Rattle.omega_hoa_syntax.specs.Symbols.{ReadsSymbols, AutomatonSymbol, Tokens}
use Rattle.omega_hoa_automaton.specs.Automaton.{Description}
use Rattle.omega_hoa_automaton.specs.Laws.{MeaningsAreAutomata}
use Rattle.omega_hoa_automaton.specs.Meaning.{Means}
use Rattle.omega_hoa.specs.Laws.{AutomataFillSegments}
use Rattle.omega_hoa.specs.Stream.{IsStream, IsStreamText}
use Rattle.omega_hoa.specs.declared.item.Item.{Item}
use Rattle.omega_hoa.specs.declared.item.Item.TheVariants.{Aborted, Automaton}
use Rattle.omega_canon.specs.Canonical.{canonical_automaton}
use Rattle.omega_hoa_round_trips.specs.Laws.{WasRead}
use Rattle.omega_canon.specs.Stream.{automata_in, canonical_stream}
use Rattle.omega_hoa_round_trips.specs.Writable.{IsWritableAutomaton}
use Rattle.omega_hoa_round_trips.specs.Written.{written_automaton}
use Rattle.omega_hoa_round_trips.proofs.meanings.Meant.{Meanings}
use Rattle.omega_hoa_round_trips.proofs.meanings.ReadBack.{IsOfTokens, cut-tokens, read-means, read-writable}
use Rattle.omega_hoa_round_trips.proofs.streams.After.{spelled_after}
use Rattle.omega_hoa_round_trips.proofs.texts.Spelled.{IsSpelled, Known, nothing-spelled}
use Rattle.omega_hoa_round_trips.proofs.texts.Whole.{whole-spelled, written-reads}

-- what holds of an item that is an automaton
abbrev OfAutomaton : (Description → Type 0) → Item → Type 0
OfAutomaton Holds (Automaton a) = Holds a
OfAutomaton Holds Aborted = Unit {0}

-- what holds of all tokens holds of the first and of the last of them
front-tokens : (front back : Tokens) → AllByRecursion (IsTokenOf hoa_format) (front ++ back) → AllByRecursion (IsTokenOf hoa_format) front
front-tokens [] back all = tt
front-tokens (lexeme ∷ front) back all = (all.0, front-tokens front back all.1)

back-tokens : (front back : Tokens) → AllByRecursion (IsTokenOf hoa_format) (front ++ back) → AllByRecursion (IsTokenOf hoa_format) back
back-tokens [] back all = all
back-tokens (lexeme ∷ front) back all = back-tokens front back all.1

-- the automata of a stream are those of tokens
items-read : (tokens : Tokens) (items : List Item) → AllByRecursion (IsTokenOf hoa_format) tokens → IsStream tokens items → AllByRecursion (OfAutomaton IsOfTokens) items
items-read tokens [] all is = tt
items-read tokens (Automaton a ∷ items) all is =
    let parts = subst (AllByRecursion (IsTokenOf hoa_format)) is.2 all in (
      record { tokens = is.0; of_text = front-tokens is.0 is.1 parts; is = is.3.1 },
      items-read is.1 items (back-tokens is.0 is.1 parts) is.4,
    )
items-read tokens (Aborted ∷ items) all is =
    (tt, items-read is.1 items (back-tokens is.0 is.1 (subst (AllByRecursion (IsTokenOf hoa_format)) is.2 all)) is.4)

text-items : (source : List ℕ) (items : List Item) → IsStreamText source items → AllByRecursion (OfAutomaton IsOfTokens) items
text-items source items is = items-read is.lexemes items (cut-tokens source 0 is.cut.end is.lexemes is.cut.cuts) is.stream

-- so is an automaton that was read
pub read-tokens : (a : Description) → WasRead a → IsOfTokens a
read-tokens a was = elim was [
  | inl alone ↦
      let is = alone.1 in
      record { tokens = is.lexemes; of_text = cut-tokens alone.0 0 is.cut.end is.lexemes is.cut.cuts; is = is.value }
  | inr among ↦
      All-contains (OfAutomaton IsOfTokens) among.1 (Automaton a)
      (All-from_recursion (OfAutomaton IsOfTokens) among.1 (text-items among.0 among.1 among.2)) among.3
]

-- the symbols of the automata of a stream
abbrev symbols_in : List Item → List AutomatonSymbol
symbols_in [] = []
symbols_in (Automaton a ∷ items) = automaton_symbols (written_automaton a) ++ symbols_in items
symbols_in (Aborted ∷ items) = symbols_in items

-- the canonical text of a stream is their tokens
stream-spelled : Known → (items : List Item) → AllByRecursion (OfAutomaton IsWritableAutomaton) items → IsSpelled (canonical_stream items) (symbols_in items)
stream-spelled known [] all = nothing-spelled
stream-spelled known (Automaton a ∷ items) all =
    subst (IsSpelled (canonical_automaton a ++ canonical_stream items)) (spelled_after (written_automaton a) (symbols_in items))
    (whole-spelled known a all.0 (canonical_stream items) (symbols_in items) (stream-spelled known items all.1))
stream-spelled known (Aborted ∷ items) all = stream-spelled known items all.1

-- the tokens of some symbols and of others after them
spelled-front : (front back : List AutomatonSymbol) (tokens rest : Tokens) → ReadsSymbols tokens (front ++ back) rest
    → (middle : Tokens) × ReadsSymbols tokens front middle × ReadsSymbols middle back rest
spelled-front [] back tokens rest spells = (tokens, refl, spells)
spelled-front (symbol ∷ front) back tokens rest spells =
    let more = spelled-front front back spells.middle rest spells.back in
    (more.0, record { middle = spells.middle; front = spells.front; back = more.1 }, more.2)

-- an automaton as it is written can be written and means the automaton
record IsBack (a : Description) : Type 0 where
  writable : IsWritableAutomaton a
  means : Means (written_automaton a) a

-- the tokens are a stream of the automata
stream-filled : AutomataFillSegments → (items : List Item) (tokens : Tokens) → AllByRecursion (IsTokenOf hoa_format) tokens → AllByRecursion (OfAutomaton IsBack) items
    → ReadsSymbols tokens (symbols_in items) [] → IsStream tokens (automata_in items)
stream-filled fill [] tokens all back spells = spells
stream-filled fill (Automaton a ∷ items) tokens all back spells =
    let parts = spelled-front (automaton_symbols (written_automaton a)) (symbols_in items) tokens [] spells in
    let reads = written-reads a tokens parts.0 back.0.writable parts.1 in
    let filled = fill tokens parts.0 (written_automaton a) all reads in (
      filled.segment,
      parts.0,
      filled.split,
      (filled.whole, record { raw = written_automaton a; written = filled.written; means = back.0.means }),
      stream-filled fill items parts.0 (back-tokens filled.segment parts.0 (subst (AllByRecursion (IsTokenOf hoa_format)) filled.split all)) back.1 parts.2,
    )
stream-filled fill (Aborted ∷ items) tokens all back spells = stream-filled fill items tokens all back.1 spells

-- what follows for each automaton follows for each item
all-automata : (Is More : Description → Type 0) → ((a : Description) → Is a → More a) → (items : List Item) → AllByRecursion (OfAutomaton Is) items → AllByRecursion (OfAutomaton More) items
all-automata Is More then [] all = tt
all-automata Is More then (Automaton a ∷ items) all = (then a all.0, all-automata Is More then items all.1)
all-automata Is More then (Aborted ∷ items) all = (tt, all-automata Is More then items all.1)

-- the canonical text of a stream is that of a stream with the same automata
pub stream-read : Known → Meanings → MeaningsAreAutomata → AutomataFillSegments → (source : List ℕ) (items : List Item) → IsStreamText source items
    → length (canonical_stream items) ≤ most_text → IsStreamText (canonical_stream items) (automata_in items)
stream-read known meanings automata fill source items is short =
    let read = text-items source items is in
    let writable = all-automata IsOfTokens IsWritableAutomaton (read-writable automata) items read in
    let back = all-automata IsOfTokens IsBack (λ a of. record { writable = read-writable automata a of; means = read-means meanings automata a of }) items read in
    let there = (stream-spelled known items writable).there (canonical_stream items) 0 (omega arith) refl in
    record {
      short = short;
      lexemes = there.tokens;
      cut = record { end = there.end; cuts = there.cuts; rest = there.rest };
      stream = stream-filled fill items there.tokens (cut-tokens (canonical_stream items) 0 there.end there.tokens there.cuts) back there.spells;
    }
