-- The next tokens of a stream, and the bytes that they are read from.
use Rattle.std.specs.Prelude.{◌≡◌, ℕ, ◌+◌, ◌≤◌, ◌⊎◌, Option, None, Some}
use Rattle.std.specs.Prelude.{List, [], ◌∷◌, ◌++◌, length, take, drop}
use Rattle.omega_text.specs.Cut.{Cuts}
use Rattle.omega_text.specs.Lexeme.{Lexeme}
use Rattle.omega_text.specs.Limits.{most_text}
use Rattle.omega_text.specs.hoa.Format.{hoa_format}
use Rattle.omega_text.specs.hoa.Pieces.{IsSettled, lexeme_in, lexemes_in, settled_lexemes}
use Rattle.omega_text.specs.contracts.hoa.tokenizer.HoaTokenizerByteTokenizer.TheImpl.{ghosts as hoa_tokens}
use Rattle.omega_text.specs.declared.hoa.kind.HoaKind.{HoaKind}
use Rattle.omega_text.specs.declared.hoa.placed.PlacedToken.{PlacedToken}
use Rattle.omega_text.specs.declared.hoa.placed.Settled.{Settled}
use Rattle.omega_text.specs.declared.refusal.Refusal.{Refusal}
use Rattle.omega_text.specs.declared.refusal.Refusal.TheVariants.{Memory}
use Rattle.omega_hoa.specs.Feeding.{Appends, IsDivided, IsRefusedThen}
use Rattle.omega_hoa.specs.Stream.{IsItemOf, IsStreamFault}
use Rattle.omega_hoa.specs.declared.division.Division.{Division}
use Rattle.omega_hoa_automaton.specs.Automaton.{Description}
use Rattle.omega_hoa.specs.declared.item.Item.{Item}
use Rattle.omega_hoa.specs.declared.item.Item.TheVariants.{Automaton}
use Rattle.omega_hoa.specs.declared.progress.ReadProgress.{ReadProgress}

-- the bytes are those of a text from a place on, as far as it was seen and perhaps further
pub record IsWindow (bytes : List ℕ) (first : ℕ) (seen : List ℕ) : Type 0 where
  pub following : List ℕ
  pub is : bytes ≡ drop first (seen ++ following)
  pub within : length seen ≤ first + length bytes

-- after divided tokens comes this one, if it is some, in a text; the bytes are a window of it
pub record IsNextDivision (bytes : List ℕ) (first : ℕ) (division : Division)
    (token : Option PlacedToken) (seen : List ℕ) (lexemes : List (Lexeme HoaKind))
    (items : List Item) : Type 0 where
  pub divided : IsDivided seen lexemes items division.begins division.inside
  pub cuts : (more : List ℕ)
      → (end : ℕ) × Cuts hoa_format (seen ++ more) 0 (lexemes ++ lexemes_in seen token) end
  pub window : IsWindow bytes first seen
  pub from : first ≤ division.begins

-- some token is the next
abbrev pub IsNextSome : List ℕ → ℕ → Division → Option PlacedToken → Type 0
IsNextSome bytes first division token =
    (seen : List ℕ) × (lexemes : List (Lexeme HoaKind)) × (items : List Item)
    × IsNextDivision bytes first division token seen lexemes items

-- a text is refused however it goes on, or memory is
abbrev pub IsRefusedNow : List ℕ → List Item → Refusal → Type 0
IsRefusedNow seen items refusal =
    (refusal ≡ Memory) ⊎ ((more : List ℕ) → IsStreamFault (seen ++ more) items refusal)

-- some values were appended to a list
abbrev pub Extends : {X : Type 0} → List X → List X → Type 0
Extends {X} old new = (added : List X) × (new ≡ old ++ added)

-- the token was taken, and the item of a segment that it ends appended
abbrev pub IsTakenAs : List ℕ → ℕ → Division → Option PlacedToken
    → (old new : List Item) → Division → Type 0
IsTakenAs bytes first division token old new after =
    (seen : List ℕ) (lexemes : List (Lexeme HoaKind)) (items : List Item)
    → IsNextDivision bytes first division token seen lexemes items → Appends old new items
    (λ all. IsDivided seen (lexemes ++ lexemes_in seen token) all after.begins after.inside)

-- the token refuses the text
abbrev pub IsRefusedAt : List ℕ → ℕ → Division → Option PlacedToken → Refusal → Type 0
IsRefusedAt bytes first division token refusal =
    (seen : List ℕ) (lexemes : List (Lexeme HoaKind)) (items : List Item)
    → IsNextDivision bytes first division token seen lexemes items
    → IsRefusedNow seen items refusal

-- the item is that of a segment that the token ends
abbrev pub IsItemAt : List ℕ → ℕ → Division → PlacedToken → Item → Type 0
IsItemAt bytes first division token item =
    (seen : List ℕ) (lexemes : List (Lexeme HoaKind)) (items : List Item)
    → (next : IsNextDivision bytes first division (Some token) seen lexemes items)
    → IsItemOf (next.divided.rest ++ lexeme_in seen token ∷ []) item

-- neither a token nor a fault was settled
pub record IsNothing (settled : Settled) : Type 0 where
  pub first : settled.first ≡ None
  pub second : settled.second ≡ None
  pub fault : settled.fault ≡ None

-- after divided tokens come those that a byte settles
pub record IsNextSettled (bytes : List ℕ) (first : ℕ) (division : Division) (settled : Settled)
    (seen : List ℕ) (lexemes : List (Lexeme HoaKind)) (items : List Item) : Type 0 where
  pub divided : IsDivided seen lexemes items division.begins division.inside
  pub settles : IsSettled settled.fault seen (lexemes ++ settled_lexemes seen settled)
  pub window : IsWindow bytes first seen
  pub from : first ≤ division.begins

-- a byte settles some tokens
abbrev pub IsNextSettledSome : List ℕ → ℕ → Division → Settled → Type 0
IsNextSettledSome bytes first division settled =
    (seen : List ℕ) × (lexemes : List (Lexeme HoaKind)) × (items : List Item)
    × IsNextSettled bytes first division settled seen lexemes items

-- they were taken, and the items of segments that they end appended
abbrev pub AreTakenAs : List ℕ → ℕ → Division → Settled → (old new : List Item) → Division → Type 0
AreTakenAs bytes first division settled old new after =
    (seen : List ℕ) (lexemes : List (Lexeme HoaKind)) (items : List Item)
    → IsNextSettled bytes first division settled seen lexemes items → Appends old new items
    (λ all. IsDivided seen (lexemes ++ settled_lexemes seen settled) all after.begins after.inside)

-- they refuse the text
abbrev pub AreRefusedAt : List ℕ → ℕ → Division → Settled → (old new : List Item) → Refusal → Type 0
AreRefusedAt bytes first division settled old new refusal =
    (seen : List ℕ) (lexemes : List (Lexeme HoaKind)) (items : List Item)
    → IsNextSettled bytes first division settled seen lexemes items
    → IsRefusedThen seen old new items refusal

-- the bytes were read up to a place, after bytes before them, and no fault of tokens is settled
pub record IsProgress (bytes : List ℕ) (first place : ℕ) (progress : ReadProgress) (prior : List ℕ)
    (items : List Item) : Type 0 where
  pub there : first ≡ length prior
  pub lexemes : List (Lexeme HoaKind)
  pub read : hoa_tokens.read progress.tokenizer (prior ++ take place bytes) lexemes
  pub sound : hoa_tokens.fault progress.tokenizer ≡ None
  pub divided : IsDivided
      (prior ++ take place bytes) lexemes items progress.division.begins progress.division.inside
  pub from : first ≤ progress.division.begins
  pub short : first + length bytes ≤ most_text

-- bytes were read up to a place
abbrev pub IsProgressSome : List ℕ → ℕ → ℕ → ReadProgress → Type 0
IsProgressSome bytes first place progress =
    (prior : List ℕ) × (items : List Item) × IsProgress bytes first place progress prior items

-- the bytes from a place up to another were read, and the items of their segments appended
abbrev pub IsReadAs : List ℕ → ℕ → (from to : ℕ) → ReadProgress → (old new : List Item)
    → ReadProgress → Type 0
IsReadAs bytes first from to progress old new after =
    (prior : List ℕ) (items : List Item) → IsProgress bytes first from progress prior items
    → Appends old new items (IsProgress bytes first to after prior)

-- a whole segment with this automaton was read from a place on up to another
abbrev pub IsWholeRead : List ℕ → (first place : ℕ) → ReadProgress → Description → (end : ℕ)
    → ReadProgress → Type 0
IsWholeRead bytes first place progress automaton end after =
    (prior : List ℕ) (items : List Item) → IsProgress bytes first place progress prior items
    → IsProgress bytes first end after prior (items ++ Automaton automaton ∷ [])

-- what was read up to a place was read on up to another, without a change of the items
abbrev pub IsPassedTo : List ℕ → (first from to : ℕ) → ReadProgress → ReadProgress → Type 0
IsPassedTo bytes first from to progress after =
    (prior : List ℕ) (items : List Item) → IsProgress bytes first from progress prior items
    → IsProgress bytes first to after prior items

-- the bytes from a place on refuse the text
abbrev pub IsRefusedFrom : List ℕ → (first from : ℕ) → ReadProgress
    → (old new : List Item) → Refusal → Type 0
IsRefusedFrom bytes first from progress old new refusal =
    (prior : List ℕ) (items : List Item) → IsProgress bytes first from progress prior items
    → IsRefusedThen (prior ++ bytes) old new items refusal
