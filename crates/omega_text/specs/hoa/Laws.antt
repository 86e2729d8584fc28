-- Laws of every Hanoi text and its cut, and how written tokens are cut.
use Rattle.std.specs.Prelude.{◌≡◌, ◌≢◌, ℕ, ◌+◌, ◌≤◌, Bool, true, false}
use Rattle.std.specs.Prelude.{◌↔◌, List, ◌++◌, length, drop, slice_index}
use Rattle.std.specs.List.{AllPass}
use Rattle.std.specs.Str.Parse.{digits_value}
use Rattle.omega_text.specs.Lexeme.{lexeme_at}
use Rattle.omega_text.specs.Limits.{most_number}
use Rattle.omega_text.specs.declared.hoa.kind.HoaKind.{HoaKind}
use Rattle.omega_text.specs.declared.hoa.kind.HoaKind.TheVariants.{Identifier, AliasName, True, False, Int}
use Rattle.omega_text.specs.hoa.Cut.{Follows, IsGap, IsLongest}
use Rattle.omega_text.specs.hoa.Forms.{IsAlias, IsForm, Spells}
use Rattle.omega_text.specs.Bytes.{is_digit, is_white, is_word_byte}
use Rattle.omega_text.specs.Forms.{IsDigits, IsWord}

-- a text is a token of at most one kind and value, and no value is above the greatest number
abbrev pub SpellingsAreOne : Type 0
SpellingsAreOne = (text : List ℕ) (one other : HoaKind) (value another : ℕ) → Spells one value text
    → Spells other another text → (one ≡ other) × (value ≡ another) × (value ≤ most_number)

-- digits are a number exactly if they are `0` or begin with 1 to 9, and their value is at most the greatest number
abbrev pub NumbersArePlain : Type 0
NumbersArePlain = (text : List ℕ) (value : ℕ) → Spells Int value text
    ↔ (IsDigits text × (slice_index text 0 ≡ 48 → length text ≡ 1) × (digits_value 10 text ≡ value)
    × (value ≤ most_number))

-- a word, `t` and `f` among them, ends before what can't go on in a word, unless that is a colon
abbrev pub WordsAreLongest : Type 0
WordsAreLongest = (text rest : List ℕ) → IsWord text → is_word_byte (slice_index rest 0) ≡ false
    → slice_index rest 0 ≢ 58 → IsLongest text rest

-- an alias name ends before what can't go on in a word
abbrev pub AliasNamesAreLongest : Type 0
AliasNamesAreLongest = (text rest : List ℕ) → IsAlias text
    → is_word_byte (slice_index rest 0) ≡ false → IsLongest text rest

-- digits end before what is no digit
abbrev pub NumbersAreLongest : Type 0
NumbersAreLongest = (text rest : List ℕ) → IsDigits text
    → is_digit (slice_index rest 0) ≡ false → IsLongest text rest

-- the kinds of tokens that settle their own end: header names, strings, marks and signs
abbrev pub is_closed : HoaKind → Bool
is_closed Identifier = false
is_closed AliasName = false
is_closed True = false
is_closed False = false
is_closed Int = false
is_closed kind = true

-- such a token ends at its last byte, whatever follows
abbrev pub ClosedAreLongest : Type 0
ClosedAreLongest = (kind : HoaKind) (text rest : List ℕ) → is_closed kind ≡ true
    → IsForm kind text → IsLongest text rest

-- white space is a gap
abbrev pub WhiteIsGap : Type 0
WhiteIsGap = (gap : List ℕ) → AllPass is_white gap → IsGap gap

-- a gap and then the longest unit, which spells a token, are that token
abbrev pub TokensFollow : Type 0
TokensFollow = (source gap text rest : List ℕ) (from : ℕ) (kind : HoaKind) (value : ℕ)
    → drop from source ≡ gap ++ (text ++ rest) → IsGap gap → Spells kind value text
    → IsLongest text rest → Follows source from (lexeme_at (from + length gap) kind value text)
