-- What is settled of a text that comes byte by byte: it stays so however the text goes on.
use Rattle.std.specs.Prelude.{◌≡◌, ℕ, ◌+◌, ◌-◌, ◌<◌, ◌≤◌, ◌^◌, Bool, true, false, Option}
use Rattle.std.specs.Prelude.{Some, None, List, [], ◌∷◌, ◌++◌, length, take, drop}
use Rattle.omega_text.specs.Cut.{Cuts, IsCut}
use Rattle.omega_text.specs.Lexeme.{Lexeme}
use Rattle.omega_text.specs.declared.hoa.kind.HoaKind.{HoaKind}
use Rattle.omega_text.specs.declared.hoa.kind.HoaKind.TheVariants.{Body, End, Abort}
use Rattle.omega_text.specs.declared.hoa.placed.PlacedToken.{PlacedToken}
use Rattle.omega_text.specs.declared.hoa.placed.Settled.{Settled}
use Rattle.omega_text.specs.declared.refusal.text.TextFault.{TextFault}
use Rattle.omega_text.specs.hoa.Cut.{IsGap}
use Rattle.omega_text.specs.hoa.Fault.{HasFaultFrom}
use Rattle.omega_text.specs.hoa.Format.{hoa_format}
use Rattle.omega_text.specs.hoa.Forms.{IsUnit}
use Rattle.omega_text.specs.hoa.Laws.{is_closed}

-- a placed token of a text, with its bytes
abbrev pub lexeme_in : List ℕ → PlacedToken → Lexeme HoaKind
lexeme_in source token = record {
  kind = token.kind;
  text = take (token.span.end - token.span.start) (drop token.span.start source);
  value = token.value;
  span = token.span;
}

-- the tokens of a text that may have been settled
abbrev pub lexemes_in : List ℕ → Option PlacedToken → List (Lexeme HoaKind)
lexemes_in source None = []
lexemes_in source (Some token) = lexeme_in source token ∷ []

-- the tokens of a text that were settled at once
abbrev pub settled_lexemes : List ℕ → Settled → List (Lexeme HoaKind)
settled_lexemes source settled = lexemes_in source settled.first ++ lexemes_in source settled.second

-- all bytes are read by the end of a token that ends by itself, in a text that may go on
pub record EndsClosed (seen : List ℕ) (lexemes : List (Lexeme HoaKind)) : Type 0 where
  pub front : List (Lexeme HoaKind)
  pub last : Lexeme HoaKind
  pub rest : List ℕ
  pub split : lexemes ≡ front ++ last ∷ []
  pub closed : is_closed last.kind ≡ true
  pub cuts : Cuts hoa_format (seen ++ rest) 0 lexemes (length seen)

-- some unit begins with these bytes and is longer
pub record GoesOn (bytes : List ℕ) : Type 0 where
  pub more : List ℕ
  pub sort : Option HoaKind
  pub longer : 0 < length more
  pub unit : IsUnit sort (bytes ++ more)

-- the cut begins with these tokens however the text goes on,
-- and after them is a gap and then what may be the beginning of a longer unit
pub record Settles (seen : List ℕ) (lexemes : List (Lexeme HoaKind)) : Type 0 where
  pub end : ℕ
  pub gap : List ℕ
  pub pending : List ℕ
  pub cuts : (rest : List ℕ) → Cuts hoa_format (seen ++ rest) 0 lexemes end
  pub split : drop end seen ≡ gap ++ pending
  pub passed : IsGap gap
  pub goes_on : GoesOn pending

-- the text has this fault after these tokens however it goes on
pub record SettlesFault (seen : List ℕ) (lexemes : List (Lexeme HoaKind))
    (fault : TextFault) : Type 0 where
  pub end : ℕ
  pub cuts : (rest : List ℕ) → Cuts hoa_format (seen ++ rest) 0 lexemes end
  pub faults : (rest : List ℕ) → HasFaultFrom (seen ++ rest) end fault

-- what is settled, with the fault if there is one
abbrev pub IsSettled : Option TextFault → List ℕ → List (Lexeme HoaKind) → Type 0
IsSettled None seen lexemes = Settles seen lexemes
IsSettled (Some fault) seen lexemes = SettlesFault seen lexemes fault

-- the text has this fault after these tokens
pub record FaultsAfter (source : List ℕ) (lexemes : List (Lexeme HoaKind))
    (fault : TextFault) : Type 0 where
  pub end : ℕ
  pub cuts : Cuts hoa_format source 0 lexemes end
  pub faults : HasFaultFrom source end fault

-- the tokens are the text's, or those before its fault
abbrev pub IsCutUpToFault : Option TextFault → List ℕ → List (Lexeme HoaKind) → Type 0
IsCutUpToFault None source lexemes = IsCut hoa_format source lexemes
IsCutUpToFault (Some fault) source lexemes = FaultsAfter source lexemes fault

-- the marks `--BODY--`, `--END--` and `--ABORT--`
abbrev pub is_mark : HoaKind → Bool
is_mark Body = true
is_mark End = true
is_mark Abort = true
is_mark kind = false

-- no token is a mark
abbrev pub NoneMarks : List (Lexeme HoaKind) → Type 0
NoneMarks [] = Unit {0}
NoneMarks (lexeme ∷ lexemes) = (is_mark lexeme.kind ≡ false) × NoneMarks lexemes

-- a token that may have been settled is no mark
abbrev pub IsNoneMark : Option PlacedToken → Type 0
IsNoneMark None = Unit {0}
IsNoneMark (Some token) = is_mark token.kind ≡ false

-- neither a mark nor a fault was settled
pub record IsPlain (settled : Settled) : Type 0 where
  pub sound : settled.fault ≡ None
  pub first : IsNoneMark settled.first
  pub second : IsNoneMark settled.second

-- after these tokens, a mark or a fault is settled by the next byte
abbrev pub StopsBefore : List ℕ → List (Lexeme HoaKind) → ℕ → Type 0
StopsBefore seen lexemes byte = (settled : Settled) × IsSettled settled.fault (seen ++ byte ∷ [])
    (lexemes ++ settled_lexemes (seen ++ byte ∷ []) settled) × (IsPlain settled → ⊥)

-- what is so of bytes that a tokenizer may have read and tokens that it may have settled of them
abbrev pub Reading : Type 1
Reading = List ℕ → List (Lexeme HoaKind) → Type 0

-- some bytes were read, and after them places can be counted further by this number
abbrev pub HasRoom : Reading → ℕ → Type 0
HasRoom IsRead count = (seen : List ℕ) × (lexemes : List (Lexeme HoaKind)) × IsRead seen lexemes
    × (length seen + count < 2 ^ 64)

-- these bytes more were read, and the tokens that they settled are no marks
pub record HasPassed (IsRead : Reading) (seen : List ℕ) (lexemes : List (Lexeme HoaKind))
    (bytes : List ℕ) : Type 0 where
  pub passed : List (Lexeme HoaKind)
  pub read : IsRead (seen ++ bytes) (lexemes ++ passed)
  pub plain : NoneMarks passed

-- the text `other` differs from `one` only before a place, where whole tokens of each end however both go on
pub record DiffersBefore (place : ℕ) (one : List ℕ) (front : List (Lexeme HoaKind)) (other : List ℕ)
    (another : List (Lexeme HoaKind)) : Type 0 where
  pub within : place ≤ length one
  pub long : length other ≡ length one
  pub same : drop place one ≡ drop place other
  pub cuts : (more : List ℕ) → Cuts hoa_format (one ++ more) 0 front place
  pub other_cuts : (more : List ℕ) → Cuts hoa_format (other ++ more) 0 another place
