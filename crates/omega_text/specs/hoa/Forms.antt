-- The forms of a Hanoi text's tokens, and of what is between them.
use Rattle.std.specs.Prelude.{◌≡◌, ◌≢◌, ℕ, suc, ◌<◌, ◌≤◌, true, ◌⊎◌, Option, Some, None}
use Rattle.std.specs.Prelude.{List, [], ◌∷◌, ◌++◌, length, slice_index, codes, decimal}
use Rattle.std.specs.List.{AllPass}
use Rattle.omega_text.specs.Limits.{most_number}
use Rattle.omega_text.specs.Bytes.{is_white, is_word_byte}
use Rattle.omega_text.specs.Forms.{IsDigits, IsWord}
use Rattle.omega_text.specs.declared.hoa.kind.HoaKind.{HoaKind}
use Rattle.omega_text.specs.declared.hoa.kind.HoaKind.TheVariants.{Identifier, HeaderName, AliasName, True}
use Rattle.omega_text.specs.declared.hoa.kind.HoaKind.TheVariants.{False, Int, String, Body, End, Abort, Not}
use Rattle.omega_text.specs.declared.hoa.kind.HoaKind.TheVariants.{And, Or, OpenParenthesis, CloseParenthesis}
use Rattle.omega_text.specs.declared.hoa.kind.HoaKind.TheVariants.{OpenBracket, CloseBracket, OpenBrace}
use Rattle.omega_text.specs.declared.hoa.kind.HoaKind.TheVariants.{CloseBrace}

-- a word and a colon
abbrev pub IsHeader : List ℕ → Type 0
IsHeader text = (word : List ℕ) × (text ≡ word ++ 58 ∷ []) × IsWord word

-- `@` and one byte or more of a word
abbrev pub IsAlias : List ℕ → Type 0
IsAlias text = (name : List ℕ) × (text ≡ 64 ∷ name) × (0 < length name) × AllPass is_word_byte name

-- what may be between two quotes: a backslash takes the next byte with it, and no other quote is there
pub data IsQuotable : List ℕ → Type 0 where
  empty : IsQuotable []
  plain : (byte : ℕ) (rest : List ℕ) → byte ≢ 34 → byte ≢ 92 → IsQuotable rest
      → IsQuotable (byte ∷ rest)
  escaped : (byte : ℕ) (rest : List ℕ) → IsQuotable rest → IsQuotable (92 ∷ byte ∷ rest)

-- bytes between two quotes
abbrev pub IsString : List ℕ → Type 0
IsString text = (inside : List ℕ) × (text ≡ 34 ∷ (inside ++ 34 ∷ [])) × IsQuotable inside

-- how a constant, a mark or a sign is written
abbrev pub spelling : HoaKind → List ℕ
spelling True = codes "t"
spelling False = codes "f"
spelling Body = codes "--BODY--"
spelling End = codes "--END--"
spelling Abort = codes "--ABORT--"
spelling Not = codes "!"
spelling And = codes "&"
spelling Or = codes "|"
spelling OpenParenthesis = codes "("
spelling CloseParenthesis = codes ")"
spelling OpenBracket = codes "["
spelling CloseBracket = codes "]"
spelling OpenBrace = codes "{"
spelling CloseBrace = codes "}"
spelling kind = []

-- what a token of each kind looks like, before a number is judged
abbrev pub IsForm : HoaKind → List ℕ → Type 0
IsForm Identifier text = IsWord text × (text ≢ codes "t") × (text ≢ codes "f")
IsForm HeaderName text = IsHeader text
IsForm AliasName text = IsAlias text
IsForm Int text = IsDigits text
IsForm String text = IsString text
IsForm kind text = text ≡ spelling kind

-- a byte does not begin the mark that opens or the mark that closes a comment
pub record IsNoMark (byte next : ℕ) : Type 0 where
  pub opens_none : byte ≡ 47 → next ≡ 42 → ⊥
  pub closes_none : byte ≡ 42 → next ≡ 47 → ⊥

-- bytes that close this number of comments, the outermost by their last two; marks are found from the left, and do not
-- overlap
pub data Closes : ℕ → List ℕ → Type 0 where
  closed : Closes 0 []
  close : (depth : ℕ) (rest : List ℕ) → Closes depth rest → Closes (suc depth) (42 ∷ 47 ∷ rest)
  nest : (depth : ℕ) (rest : List ℕ) → Closes (suc (suc depth)) rest
      → Closes (suc depth) (47 ∷ 42 ∷ rest)
  other : (depth byte : ℕ) (rest : List ℕ) → IsNoMark byte (slice_index rest 0)
      → Closes (suc depth) rest → Closes (suc depth) (byte ∷ rest)

-- a comment with the comments inside it
abbrev pub IsComment : List ℕ → Type 0
IsComment text = (inside : List ℕ) × (text ≡ 47 ∷ 42 ∷ inside) × Closes 1 inside

-- one white byte, or a comment
abbrev pub IsBlank : List ℕ → Type 0
IsBlank text = ((byte : ℕ) × (text ≡ byte ∷ []) × (is_white byte ≡ true)) ⊎ IsComment text

-- a unit of a text: the form of a token of some kind, or a part of a gap, which has none
abbrev pub IsUnit : Option HoaKind → List ℕ → Type 0
IsUnit None text = IsBlank text
IsUnit (Some kind) text = IsForm kind text

-- the text is the token of this kind and value: a number is written in decimal without needless zeros,
-- and only numbers have a value
abbrev pub Spells : HoaKind → ℕ → List ℕ → Type 0
Spells Int value text = (value ≤ most_number) × (text ≡ decimal value)
Spells kind value text = (value ≡ 0) × IsForm kind text
