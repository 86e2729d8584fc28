-- Laws of texts of one automaton, of streams, of streams in pieces, and of automata in tokens, whatever the code does.
use Rattle.std.specs.Prelude.{◌≡◌, ℕ, List, [], ◌∷◌, ◌++◌, Option, Some, None, MatchOption}
use Rattle.std.specs.List.{AllByRecursion, flat_map}
use Rattle.omega_text.specs.Lexeme.{Lexeme}
use Rattle.omega_text.specs.Reading.{IsTokenOf}
use Rattle.omega_text.specs.hoa.Format.{hoa_format}
use Rattle.omega_text.specs.declared.hoa.kind.HoaKind.{HoaKind}
use Rattle.omega_text.specs.declared.hoa.kind.HoaKind.TheVariants.{End}
use Rattle.omega_text.specs.declared.refusal.Refusal.{Refusal}
use Rattle.omega_text.specs.declared.refusal.Refusal.TheVariants.{Text}
use Rattle.omega_text.specs.declared.refusal.text.TextFault.TheVariants.{TooLong}
use Rattle.omega_hoa_syntax.specs.Grammar.{ReadsAutomaton}
use Rattle.omega_hoa_syntax.specs.declared.raw_automaton.RawAutomaton.{RawAutomaton}
use Rattle.omega_hoa_automaton.specs.Automaton.{Description}
use Rattle.omega_hoa.specs.Alone.{IsAutomatonRefusal, IsAutomatonText}
use Rattle.omega_hoa.specs.Feeding.{IsFed, TakesPiece}
use Rattle.omega_hoa.specs.Kept.{Kept}
use Rattle.omega_hoa.specs.Segment.{IsRawOf}
use Rattle.omega_hoa.specs.Stream.{IsSegment, IsStreamFault, IsStreamRefusal, IsStreamText}
use Rattle.omega_hoa.specs.declared.item.Item.{Item}

-- a text is that of at most one automaton
abbrev pub AutomataAreOne : Type 0
AutomataAreOne = (source : List ℕ) (one other : Description) → IsAutomatonText source one
    → IsAutomatonText source other → one ≡ other

-- a text that is not that of one automaton has at most one refusal
abbrev pub RefusalsAreOne : Type 0
RefusalsAreOne = (source : List ℕ) (one other : Refusal) → IsAutomatonRefusal source one
    → IsAutomatonRefusal source other → one ≡ other

-- the text of an automaton has no refusal
abbrev pub AutomataAreUnrefused : Type 0
AutomataAreUnrefused = (source : List ℕ) (automaton : Description) (refusal : Refusal)
    → IsAutomatonText source automaton → IsAutomatonRefusal source refusal → ⊥

-- no text is neither
abbrev pub AutomataOrRefused : Type 0
AutomataOrRefused =
    (source : List ℕ) → ((automaton : Description) → IsAutomatonText source automaton → ⊥)
    → ((refusal : Refusal) → IsAutomatonRefusal source refusal → ⊥) → ⊥

-- a text is a stream with at most one list of items
abbrev pub StreamsAreOne : Type 0
StreamsAreOne = (source : List ℕ) (one other : List Item) → IsStreamText source one
    → IsStreamText source other → one ≡ other

-- a text that is no stream is refused after at most one list of items, and has at most one refusal
abbrev pub StreamFaultsAreOne : Type 0
StreamFaultsAreOne = (source : List ℕ) (items others : List Item) (one other : Refusal)
    → IsStreamFault source items one → IsStreamFault source others other
    → (items ≡ others) × (one ≡ other)

-- a stream has no refusal
abbrev pub StreamsAreUnrefused : Type 0
StreamsAreUnrefused =
    (source : List ℕ) (items : List Item) (refusal : Refusal) → IsStreamText source items
    → IsStreamRefusal source refusal → ⊥

-- no text is neither
abbrev pub StreamsOrRefused : Type 0
StreamsOrRefused =
    (source : List ℕ) → ((items : List Item) → IsStreamText source items → ⊥)
    → ((refusal : Refusal) → IsStreamRefusal source refusal → ⊥) → ⊥

-- the answer at its end of a stream that was fed with these bytes and gave these items: nothing if they are a stream,
-- else their refusal, or the refusal that came before
abbrev pub IsAnsweredAtEnd : List ℕ → List Item → Kept → Option Refusal → Type 0
IsAnsweredAtEnd seen items kept None = IsStreamText seen items
IsAnsweredAtEnd seen items kept (Some refusal) =
    MatchOption kept.refused (IsStreamFault seen items refusal) (λ before. refusal ≡ before)

-- two streams that were fed with the same bytes, in any pieces, gave the same items and answer the same at their ends,
-- unless one passed the limit
abbrev pub CutsChangeNothing : Type 0
CutsChangeNothing =
    (seen : List ℕ) (items others : List Item) (kept left : Kept) (one other : Option Refusal)
    → IsFed seen items kept → IsFed seen others left → (one ≡ Some (Text TooLong) → ⊥)
    → (other ≡ Some (Text TooLong) → ⊥) → IsAnsweredAtEnd seen items kept one
    → IsAnsweredAtEnd seen others left other → (items ≡ others) × (one ≡ other)

-- the bytes of pieces, one piece after the other
abbrev pub bytes_of : List (List ℕ) → List ℕ
bytes_of pieces = flat_map (λ piece. piece) pieces

-- calls of `feed`, one after the other with these pieces and none refused memory, lead from one stream to another,
-- and append these items
abbrev pub TakesPieces : Kept → List (List ℕ) → List Item → Kept → Type 0
TakesPieces old [] items new = (old ≡ new) × (items ≡ [])
TakesPieces old (piece ∷ pieces) items new =
    (next : Kept) × (first : List Item) × (rest : List Item) × TakesPiece old piece first next
    × TakesPieces next pieces rest new × (items ≡ first ++ rest)

-- a stream was fed with these pieces, one after the other, from the first on, and gave these items
pub record IsFedIn (pieces : List (List ℕ)) (items : List Item) (kept : Kept) : Type 0 where
  pub empty : Kept
  pub fresh : IsFed [] [] empty
  pub taken : TakesPieces empty pieces items kept

-- a stream that was fed with pieces was fed with their bytes
abbrev pub PiecesAreFed : Type 0
PiecesAreFed =
    (pieces : List (List ℕ)) (items : List Item) (kept : Kept) → IsFedIn pieces items kept
    → IsFed (bytes_of pieces) items kept

-- two lists of pieces with the same bytes, each fed to a stream that did not pass the limit, gave the same items,
-- and the streams answer the same at their ends
abbrev pub PiecesChangeNothing : Type 0
PiecesChangeNothing = (pieces recut : List (List ℕ)) (items others : List Item) (kept left : Kept)
    (one other : Option Refusal)
    → bytes_of pieces ≡ bytes_of recut
    → IsFedIn pieces items kept → IsFedIn recut others left → (one ≡ Some (Text TooLong) → ⊥)
    → (other ≡ Some (Text TooLong) → ⊥) → IsAnsweredAtEnd (bytes_of pieces) items kept one
    → IsAnsweredAtEnd (bytes_of recut) others left other → (items ≡ others) × (one ≡ other)

-- the first of the tokens are a whole segment, which ends with `--END--` and is that of this automaton as it is
-- written, and then come the rest
pub record FillsSegment (tokens : List (Lexeme HoaKind)) (raw : RawAutomaton)
    (rest : List (Lexeme HoaKind)) : Type 0 where
  pub segment : List (Lexeme HoaKind)
  pub split : tokens ≡ segment ++ rest
  pub whole : IsSegment End segment
  pub written : IsRawOf segment raw

-- an automaton as it is written that tokens of texts begin with fills a whole segment: no token but its last ends one
abbrev pub AutomataFillSegments : Type 0
AutomataFillSegments = (tokens rest : List (Lexeme HoaKind)) (raw : RawAutomaton)
    → AllByRecursion (IsTokenOf hoa_format) tokens
    → ReadsAutomaton tokens raw rest → FillsSegment tokens raw rest
