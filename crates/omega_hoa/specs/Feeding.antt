-- What a stream keeps of the bytes that it was fed, and the items that it gave.
use Rattle.std.specs.Prelude.{◌≡◌, ℕ, ◌+◌, ◌<◌, ◌≤◌, ◌⊎◌, Bool, true, false}
use Rattle.std.specs.Prelude.{List, [], ◌++◌, length, drop, MatchOption}
use Rattle.omega_text.specs.Cut.{Cuts}
use Rattle.omega_text.specs.Lexeme.{Lexeme}
use Rattle.omega_text.specs.Limits.{most_text}
use Rattle.omega_text.specs.hoa.Format.{hoa_format}
use Rattle.omega_text.specs.hoa.Pieces.{Settles}
use Rattle.omega_text.specs.declared.hoa.kind.HoaKind.{HoaKind}
use Rattle.omega_text.specs.declared.refusal.Refusal.{Refusal}
use Rattle.omega_text.specs.declared.refusal.Refusal.TheVariants.{Memory, Text}
use Rattle.omega_text.specs.declared.refusal.text.TextFault.TheVariants.{TooLong}
use Rattle.omega_hoa.specs.Kept.{Kept}
use Rattle.omega_hoa.specs.Stream.{IsOpen, IsStream, IsStreamFault, IsStreamText}
use Rattle.omega_hoa.specs.declared.item.Item.{Item}

-- the tokens after the last whole segment: the beginning of one that has not ended, or none
abbrev pub IsRest : Bool → List (Lexeme HoaKind) → Type 0
IsRest true lexemes = IsOpen lexemes
IsRest false lexemes = lexemes ≡ []

-- the tokens of a text that may go on in any way are whole segments with these items, up to a place,
-- and then such a rest
pub record IsDivided (seen : List ℕ) (lexemes : List (Lexeme HoaKind)) (items : List Item)
    (begins : ℕ) (inside : Bool) : Type 0 where
  pub front : List (Lexeme HoaKind)
  pub rest : List (Lexeme HoaKind)
  pub split : lexemes ≡ front ++ rest
  pub before : IsStream front items
  pub following : IsRest inside rest
  pub cuts : (more : List ℕ) → Cuts hoa_format (seen ++ more) 0 front begins

-- the bytes so far were taken, no fault of tokens is settled, and the items of their whole segments were given
pub record IsTaken (seen : List ℕ) (items : List Item) (kept : Kept) : Type 0 where
  pub lexemes : List (Lexeme HoaKind)
  pub settled : Settles seen lexemes
  pub divided : IsDivided seen lexemes items kept.begins kept.inside
  pub bytes : kept.bytes ≡ drop kept.begins seen
  pub total : length seen ≡ kept.begins + length kept.bytes
  pub short : length seen ≤ most_text

-- the bytes passed the limit: those before the piece that did were taken, and none from there on
pub record IsPastLimit (seen : List ℕ) (items : List Item) (kept : Kept) : Type 0 where
  pub front : List ℕ
  pub following : List ℕ
  pub split : seen ≡ front ++ following
  pub taken : IsTaken front items kept
  pub long : most_text < length seen

-- the bytes so far passed the limit, or are refused however they go on, after segments with these items
abbrev pub IsRefusedSoFar : List ℕ → List Item → Kept → Refusal → Type 0
IsRefusedSoFar seen items kept refusal = ((refusal ≡ Text TooLong) × IsPastLimit seen items kept)
    ⊎ ((more : List ℕ) → IsStreamFault (seen ++ more) items refusal)

-- a stream was fed with these bytes, and gave these items
abbrev pub IsFed : List ℕ → List Item → Kept → Type 0
IsFed seen items kept =
    MatchOption kept.refused (IsTaken seen items kept) (IsRefusedSoFar seen items kept)

-- with one more piece, whatever was fed before, a stream was fed with the bytes before and these, and gave these items
-- after those before
abbrev pub TakesPiece : Kept → List ℕ → List Item → Kept → Type 0
TakesPiece old piece given new = (seen : List ℕ) (items : List Item) → IsFed seen items old
    → IsFed (seen ++ piece) (items ++ given) new

-- all texts that may have been fed to a stream are streams of the items that it gave
abbrev pub EndsAsStream : Kept → Type 0
EndsAsStream kept = (seen : List ℕ) (items : List Item) → IsFed seen items kept
    → IsStreamText seen items

-- all texts that may have been fed to a stream have this refusal after the items that it gave
abbrev pub EndsInFault : Kept → Refusal → Type 0
EndsInFault kept refusal =
    (seen : List ℕ) (items : List Item) → IsFed seen items kept → IsStreamFault seen items refusal

-- some values were appended to a list, and of others with these after them a fact holds
pub record Appends {X : Type 0} (old new values : List X) (Holds : List X → Type 0) : Type 0 where
  pub added : List X
  pub is : new ≡ old ++ added
  pub holds : Holds (values ++ added)

-- memory was refused, or the text is, however it goes on, after the items that were appended
abbrev pub IsRefusedThen : List ℕ → (old new items : List Item) → Refusal → Type 0
IsRefusedThen seen old new items refusal = (refusal ≡ Memory)
    ⊎ Appends old new items (λ all. (more : List ℕ) → IsStreamFault (seen ++ more) all refusal)

-- with one more piece, whatever was fed before, the text is refused so
abbrev pub IsRefusedWith : Kept → List ℕ → (old new : List Item) → Refusal → Type 0
IsRefusedWith kept piece old new refusal = (seen : List ℕ) (items : List Item)
    → IsFed seen items kept → IsRefusedThen (seen ++ piece) old new items refusal
