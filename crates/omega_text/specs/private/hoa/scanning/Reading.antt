-- What a tokenizer has read.
use Rattle.std.specs.Prelude.{◌≡◌, ℕ, ◌+◌, ◌-◌, ◌<◌, ◌≤◌, ◌^◌, Option, Some}
use Rattle.std.specs.Prelude.{None, List, [], ◌∷◌, ◌++◌, length, drop}
use Rattle.omega_text.specs.Cut.{Cuts}
use Rattle.omega_text.specs.Lexeme.{Lexeme}
use Rattle.omega_text.specs.declared.hoa.kind.HoaKind.{HoaKind}
use Rattle.omega_text.specs.declared.hoa.mode.Mode.{Mode}
use Rattle.omega_text.specs.declared.hoa.mode.Mode.TheVariants.{Start, Digits, Whole, Blank}
use Rattle.omega_text.specs.declared.hoa.pending.Pending.{Pending}
use Rattle.omega_text.specs.declared.hoa.tokenizer.HoaTokenizer.{HoaTokenizer}
use Rattle.omega_text.specs.declared.refusal.text.TextFault.{TextFault}
use Rattle.omega_text.specs.hoa.Cut.{IsGap}
use Rattle.omega_text.specs.hoa.Format.{hoa_format}
use Rattle.omega_text.specs.private.hoa.scanning.Modes.{run}
use Rattle.omega_text.specs.hoa.Pieces.{SettlesFault}
use Rattle.omega_text.specs.Limits.{most_number}
use Rattle.omega_text.specs.declared.hoa.kind.HoaKind.TheVariants.{Int}
use Rattle.omega_text.specs.hoa.Forms.{Spells}

-- the value of digits, or a number above the greatest if they are no number
pub record IsValueOf (value : ℕ) (text : List ℕ) : Type 0 where
  pub number : value ≤ most_number → Spells Int value text
  pub none : most_number < value → (number : ℕ) → Spells Int number text → ⊥

-- a unit that is not whole yet, read so far: nothing of it, or digits with their value, or others
abbrev pub IsUnfinishedUnit : Mode → ℕ → List ℕ → Type 0
IsUnfinishedUnit (Whole kind) value begun = ⊥
IsUnfinishedUnit Blank value begun = ⊥
IsUnfinishedUnit Start value begun = begun ≡ []
IsUnfinishedUnit Digits value begun = IsValueOf value begun
IsUnfinishedUnit mode value begun = Unit {0}

-- after these tokens comes a gap and then a unit that has been read so far, if the text goes on as it may
pub record IsAt (may : List ℕ → Type 0) (seen : List ℕ) (lexemes : List (Lexeme HoaKind))
    (pending : Pending) : Type 0 where
  pub end : ℕ
  pub gap : List ℕ
  pub begun : List ℕ
  pub cuts : (rest : List ℕ) → may rest → Cuts hoa_format (seen ++ rest) 0 lexemes end
  pub split : drop end seen ≡ gap ++ begun
  pub within : end ≤ length seen
  pub passed : IsGap gap
  pub start : pending.start ≡ end + length gap
  pub reached : run (Some Start) begun ≡ Some pending.mode
  pub unfinished : IsUnfinishedUnit pending.mode pending.value begun

-- the text may go on in any way
abbrev pub Any : List ℕ → Type 0
Any rest = Unit {0}

-- the text goes on with this byte
abbrev pub With : ℕ → List ℕ → Type 0
With byte rest = (following : List ℕ) × (rest ≡ byte ∷ following)

-- what a tokenizer keeps, by its fault
abbrev pub IsKept : Option TextFault → List ℕ → List (Lexeme HoaKind) → Pending → Type 0
IsKept None seen lexemes pending = IsAt Any seen lexemes pending
IsKept (Some fault) seen lexemes pending = SettlesFault seen lexemes fault

-- a tokenizer has read these bytes and settled these tokens
pub record HasRead (seen : List ℕ) (lexemes : List (Lexeme HoaKind))
    (tokenizer : HoaTokenizer) : Type 0 where
  pub place : tokenizer.place ≡ length seen
  pub kept : IsKept tokenizer.fault seen lexemes tokenizer.pending

-- a unit is being read at a place, and places can be counted further
abbrev pub IsOnWay : Pending → ℕ → Type 0
IsOnWay pending place = (seen : List ℕ) × (lexemes : List (Lexeme HoaKind)) × (place ≡ length seen)
    × IsAt Any seen lexemes pending × (place < 2 ^ 64 - 1)
