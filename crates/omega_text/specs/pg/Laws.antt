-- Laws of every game text and its cut, and how written tokens are cut.
use Rattle.std.specs.Prelude.{◌≡◌, ℕ, ◌+◌, ◌<◌, ◌≤◌, false, ◌↔◌, List}
use Rattle.std.specs.Prelude.{◌++◌, length, drop, slice_index, decimal}
use Rattle.std.specs.List.{AllPass}
use Rattle.std.specs.Str.Parse.{digits_value}
use Rattle.omega_text.specs.Bytes.{is_digit, is_white, is_word_byte}
use Rattle.omega_text.specs.pg.Cut.{Follows, IsGap}
use Rattle.omega_text.specs.Forms.{IsDigits, IsWord}
use Rattle.omega_text.specs.pg.Forms.{IsLongest, IsQuoted, IsSign, Spells}
use Rattle.omega_text.specs.Lexeme.{lexeme_at}
use Rattle.omega_text.specs.Limits.{most_number}
use Rattle.omega_text.specs.declared.pg.kind.PgKind.{PgKind}
use Rattle.omega_text.specs.declared.pg.kind.PgKind.TheVariants.{Number}

-- a text is a token of at most one kind and value, and no value is above the greatest number
abbrev pub SpellingsAreOne : Type 0
SpellingsAreOne = (text : List ℕ) (one other : PgKind) (value another : ℕ) → Spells one value text
    → Spells other another text → (one ≡ other) × (value ≡ another) × (value ≤ most_number)

-- digits are a number exactly if they are `0` or begin with 1 to 9, and their value is at most the greatest number
abbrev pub NumbersArePlain : Type 0
NumbersArePlain = (text : List ℕ) (value : ℕ) → Spells Number value text
    ↔ (IsDigits text × (slice_index text 0 ≡ 48 → length text ≡ 1) × (digits_value 10 text ≡ value)
    × (value ≤ most_number))

-- a numeral is the longest form before what is no digit
abbrev pub NumbersAreLongest : Type 0
NumbersAreLongest = (value : ℕ) (rest : List ℕ) → is_digit (slice_index rest 0) ≡ false
    → IsLongest (decimal value ++ rest) (length (decimal value))

-- a word is the longest form before what can't go on in a word
abbrev pub WordsAreLongest : Type 0
WordsAreLongest = (text rest : List ℕ) → IsWord text → is_word_byte (slice_index rest 0) ≡ false
    → IsLongest (text ++ rest) (length text)

-- a sign is the longest form, whatever follows
abbrev pub SignsAreLongest : Type 0
SignsAreLongest = (text rest : List ℕ) → IsSign text → IsLongest (text ++ rest) (length text)

-- a name between quotes is the longest form, whatever follows
abbrev pub NamesAreLongest : Type 0
NamesAreLongest = (text rest : List ℕ) → IsQuoted text → IsLongest (text ++ rest) (length text)

-- white space and then the longest form, which spells a token, are that token
abbrev pub TokensFollow : Type 0
TokensFollow = (source gap text rest : List ℕ) (from : ℕ) (kind : PgKind) (value : ℕ)
    → drop from source ≡ gap ++ (text ++ rest) → from ≤ length source → AllPass is_white gap
    → 0 < length text → Spells kind value text → IsLongest (text ++ rest) (length text)
    → Follows source from (lexeme_at (from + length gap) kind value text)

-- white space to the end of the text is a gap
abbrev pub EndsAreGaps : Type 0
EndsAreGaps = (source : List ℕ) (from : ℕ) → from ≤ length source
    → AllPass is_white (drop from source) → IsGap source from (length source)
