-- How units are read byte by byte.
use Rattle.std.specs.Prelude.{◌≡◌, ◌<◌, ◌≤◌, take, drop, ℕ, zero, suc, ◌+◌, Option, Some}
use Rattle.std.specs.Prelude.{None, List, [], ◌∷◌, length, slice_index, if◌then◌else◌, ◌==◌}
use Rattle.omega_text.specs.declared.hoa.kind.HoaKind.{HoaKind}
use Rattle.omega_text.specs.declared.hoa.kind.HoaKind.TheVariants.{Identifier, HeaderName, AliasName, True}
use Rattle.omega_text.specs.declared.hoa.kind.HoaKind.TheVariants.{False, Int, String, Body, End, Abort, Not}
use Rattle.omega_text.specs.declared.hoa.kind.HoaKind.TheVariants.{And, Or, OpenParenthesis, CloseParenthesis}
use Rattle.omega_text.specs.declared.hoa.kind.HoaKind.TheVariants.{OpenBracket, CloseBracket, OpenBrace}
use Rattle.omega_text.specs.declared.hoa.kind.HoaKind.TheVariants.{CloseBrace}
use Rattle.omega_text.specs.declared.hoa.mode.Mode.{Mode}
use Rattle.omega_text.specs.declared.hoa.mode.Mode.TheVariants.{Start, Word, At, Alias, Digits, Quoted}
use Rattle.omega_text.specs.declared.hoa.mode.Mode.TheVariants.{Escaped, Slash, Comment, Star, Slashed, Dash}
use Rattle.omega_text.specs.declared.hoa.mode.Mode.TheVariants.{Dashes, Mark, Whole, Blank}
use Rattle.omega_text.specs.hoa.Cut.{IsLongest}
use Rattle.omega_text.specs.hoa.Forms.{IsBlank, Spells, spelling}
use Rattle.omega_text.specs.Bytes.{is_digit, is_letter, is_white, is_word_byte}

-- the kind of a word of one letter
abbrev pub letter_kind : ℕ → HoaKind
letter_kind byte = if byte == 116 then True else (if byte == 102 then False else Identifier)

-- the brackets
abbrev pub bracket_kind : ℕ → Option HoaKind
bracket_kind byte = if byte == 40 then Some OpenParenthesis
    else (if byte == 41 then Some CloseParenthesis
    else (if byte == 91 then Some OpenBracket
    else (if byte == 93 then Some CloseBracket
    else (if byte == 123 then Some OpenBrace
    else (if byte == 125 then Some CloseBrace else None)))))

-- the signs
abbrev pub sign_kind : ℕ → Option HoaKind
sign_kind byte = if byte == 33 then Some Not
    else (if byte == 38 then Some And
    else (if byte == 124 then Some Or else bracket_kind byte))

-- a whole token of a kind, if there is one
abbrev pub whole : Option HoaKind → Option Mode
whole None = None
whole (Some kind) = Some (Whole kind)

-- what a byte begins that is neither white, a letter nor a digit
abbrev pub mark_mode : ℕ → Option Mode
mark_mode byte = if byte == 34 then Some Quoted
    else (if byte == 64 then Some At
    else (if byte == 45 then Some Dash
    else (if byte == 47 then Some Slash else whole (sign_kind byte))))

-- what a byte begins
abbrev pub first_mode : ℕ → Option Mode
first_mode byte = if is_white byte then Some Blank
    else (if is_letter byte then Some (Word (letter_kind byte))
    else (if is_digit byte then Some Digits else mark_mode byte))

-- which mark two dashes and a byte begin
abbrev pub dashes_mode : ℕ → Option Mode
dashes_mode byte = if byte == 66 then Some (Mark Body 3)
    else (if byte == 69 then Some (Mark End 3)
    else (if byte == 65 then Some (Mark Abort 3) else None))

-- a mark with this number of bytes read
abbrev pub mode_in_mark : HoaKind → ℕ → Mode
mode_in_mark kind count = if count == length (spelling kind) then Whole kind else Mark kind count

-- the innermost comment is closed
abbrev pub closed_mode : ℕ → Mode
closed_mode zero = Blank
closed_mode (suc around) = Comment around

-- after the beginning of a word
abbrev pub word_mode : ℕ → Option Mode
word_mode byte = if is_word_byte byte then Some (Word Identifier)
    else (if byte == 58 then Some (Whole HeaderName) else None)

-- after `@`, and after the beginning of a name that follows it
abbrev pub alias_mode : ℕ → Option Mode
alias_mode byte = if is_word_byte byte then Some Alias else None

-- after digits
abbrev pub digits_mode : ℕ → Option Mode
digits_mode byte = if is_digit byte then Some Digits else None

-- between the quotes of a string
abbrev pub quoted_mode : ℕ → Mode
quoted_mode byte = if byte == 34 then Whole String else (if byte == 92 then Escaped else Quoted)

-- after `/`
abbrev pub slash_mode : ℕ → Option Mode
slash_mode byte = if byte == 42 then Some (Comment 0) else None

-- in a comment inside this number of others
abbrev pub comment_mode : ℕ → ℕ → Mode
comment_mode around byte =
    if byte == 42 then Star around else (if byte == 47 then Slashed around else Comment around)

-- in a comment, after `*`
abbrev pub star_mode : ℕ → ℕ → Mode
star_mode around byte =
    if byte == 47 then closed_mode around else (if byte == 42 then Star around else Comment around)

-- in a comment, after `/`
abbrev pub slashed_mode : ℕ → ℕ → Mode
slashed_mode around byte = if byte == 42 then Comment (suc around)
    else (if byte == 47 then Slashed around else Comment around)

-- after `-`
abbrev pub dash_mode : ℕ → Option Mode
dash_mode byte = if byte == 45 then Some Dashes else None

-- how far a unit has been read with one more byte, or none if no unit goes on so
abbrev pub next_mode : Mode → ℕ → Option Mode
next_mode Start byte = first_mode byte
next_mode (Word kind) byte = word_mode byte
next_mode At byte = alias_mode byte
next_mode Alias byte = alias_mode byte
next_mode Digits byte = digits_mode byte
next_mode Quoted byte = Some (quoted_mode byte)
next_mode Escaped byte = Some Quoted
next_mode Slash byte = slash_mode byte
next_mode (Comment around) byte = Some (comment_mode around byte)
next_mode (Star around) byte = Some (star_mode around byte)
next_mode (Slashed around) byte = Some (slashed_mode around byte)
next_mode Dash byte = dash_mode byte
next_mode Dashes byte = dashes_mode byte
next_mode (Mark kind count) byte =
    if byte == slice_index (spelling kind) count then Some (mode_in_mark kind (count + 1)) else None
next_mode (Whole kind) byte = None
next_mode Blank byte = None

-- the unit that has been read, if it may end here
abbrev pub unit_of : Mode → Option (Option HoaKind)
unit_of (Word kind) = Some (Some kind)
unit_of Alias = Some (Some AliasName)
unit_of Digits = Some (Some Int)
unit_of (Whole kind) = Some (Some kind)
unit_of Blank = Some None
unit_of mode = None

-- one more byte, if a unit may have been left
abbrev pub step : Option Mode → ℕ → Option Mode
step None byte = None
step (Some mode) byte = next_mode mode byte

-- all bytes of a list
abbrev pub run : Option Mode → List ℕ → Option Mode
run state [] = state
run state (byte ∷ rest) = run (step state byte) rest

-- no byte that follows goes on in this mode
abbrev pub IsStuck : Mode → List ℕ → Type 0
IsStuck mode [] = Unit {0}
IsStuck mode (byte ∷ rest) = next_mode mode byte ≡ None

-- what is counted in a mode is within bounds: open comments within the number of bytes, bytes of a mark within the mark
abbrev pub IsWithin : ℕ → Mode → Type 0
IsWithin bytes (Comment around) = around < bytes
IsWithin bytes (Star around) = around < bytes
IsWithin bytes (Slashed around) = around < bytes
IsWithin bytes (Mark kind count) = count < length (spelling kind)
IsWithin bytes mode = Unit {0}

-- bytes were read up to one with which no unit goes on
pub record IsScanned (bytes : List ℕ) (count : ℕ) (mode : Mode) : Type 0 where
  pub within : count ≤ length bytes
  pub reached : run (Some Start) (take count bytes) ≡ Some mode
  pub stuck : IsStuck mode (drop count bytes)

-- a part of a gap, or a token of this kind and value
abbrev pub SpellsUnit : Option HoaKind → ℕ → List ℕ → Type 0
SpellsUnit None value text = IsBlank text
SpellsUnit (Some kind) value text = Spells kind value text

-- the longest unit that bytes begin with
pub record IsFirstUnit (bytes : List ℕ) (kind : Option HoaKind) (value count : ℕ) : Type 0 where
  pub some : 0 < count
  pub within : count ≤ length bytes
  pub spells : SpellsUnit kind value (take count bytes)
  pub longest : IsLongest (take count bytes) (drop count bytes)

-- bytes begin with others
pub record BeginsAs (bytes front : List ℕ) : Type 0 where
  pub within : length front ≤ length bytes
  pub same : take (length front) bytes ≡ front
