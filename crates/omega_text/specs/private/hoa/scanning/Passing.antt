-- Bytes that are read at once, while they settle neither a mark nor a fault.
use Rattle.std.specs.Prelude.{◌≡◌, ℕ, ◌+◌, ◌-◌, ◌<◌, ◌≤◌, ◌^◌, ◌⊎◌, Bool, false, not}
use Rattle.std.specs.Prelude.{◌&&◌, ◌==◌, Some, List, [], ◌∷◌, ◌++◌, length, take, drop}
use Rattle.omega_text.specs.Lexeme.{Lexeme}
use Rattle.omega_text.specs.declared.hoa.kind.HoaKind.{HoaKind}
use Rattle.omega_text.specs.declared.hoa.pending.Pending.{Pending}
use Rattle.omega_text.specs.hoa.Pieces.{NoneMarks, StopsBefore, is_mark}
use Rattle.omega_text.specs.private.hoa.scanning.Modes.{first_mode}
use Rattle.omega_text.specs.declared.hoa.mode.Mode.{Mode}
use Rattle.omega_text.specs.declared.hoa.mode.Mode.TheVariants.{Word, Blank, Whole}
use Rattle.omega_text.specs.declared.hoa.passing.Course.{Course}
use Rattle.omega_text.specs.declared.hoa.passing.Course.TheVariants.{GoesOn, Ends, Other}
use Rattle.omega_text.specs.declared.hoa.passing.Simple.{Simple}
use Rattle.omega_text.specs.declared.hoa.passing.Simple.TheVariants.{Ended, Begun}
use Rattle.omega_text.specs.private.hoa.scanning.Reading.{Any, IsAt, IsUnfinishedUnit}
use Rattle.omega_text.specs.private.hoa.scanning.Unfinished.{fresh}

-- a byte that is a whole unit, and no mark
abbrev pub IsSingle : ℕ → Type 0
IsSingle byte = (first_mode byte ≡ Some Blank)
    ⊎ ((kind : HoaKind) × (first_mode byte ≡ Some (Whole kind)) × (is_mark kind ≡ false))

-- bytes more were read into a unit and those after it, and the tokens that they settled are no marks
pub record Passed (seen : List ℕ) (lexemes : List (Lexeme HoaKind)) (bytes : List ℕ)
    (after : Pending) : Type 0 where
  pub added : List (Lexeme HoaKind)
  pub at : IsAt Any (seen ++ bytes) (lexemes ++ added) after
  pub plain : NoneMarks added

-- the same in whatever text the unit before is, if this number of bytes was read
abbrev pub PassesAs : ℕ → List ℕ → (before after : Pending) → Type 0
PassesAs start bytes before after = (seen : List ℕ) (lexemes : List (Lexeme HoaKind))
    → start ≡ length seen → IsAt Any seen lexemes before → Passed seen lexemes bytes after

-- in whatever text the unit is, if this number of bytes was read, the next byte settles a mark or a fault
abbrev pub IsStop : ℕ → ℕ → Pending → Type 0
IsStop start byte before = (seen : List ℕ) (lexemes : List (Lexeme HoaKind)) → start ≡ length seen
    → IsAt Any seen lexemes before → StopsBefore seen lexemes byte

-- bytes are read as said above, from one place to another
pub record Passes (start : ℕ) (bytes : List ℕ) (from to : ℕ) (before after : Pending) : Type 0 where
  pub forward : from ≤ to
  pub within : to ≤ length bytes
  pub reads : PassesAs start (take (to - from) (drop from bytes)) before after

-- a unit that has been read so far is whole and no mark, or not whole and without a value
abbrev pub IsCourse : Mode → Course → Type 0
IsCourse next GoesOn = (value : ℕ) (begun : List ℕ) → IsUnfinishedUnit next value begun
IsCourse next Ends =
    (next ≡ Blank) ⊎ ((kind : HoaKind) × (next ≡ Whole kind) × (is_mark kind ≡ false))
IsCourse next Other = Unit {0}

-- the same of one byte, after which no unit has been begun
abbrev pub IsEndedBy : ℕ → Pending → Type 0
IsEndedBy byte before = (seen : List ℕ) (lexemes : List (Lexeme HoaKind))
    → IsAt Any seen lexemes before → Passed seen lexemes (byte ∷ []) (fresh (length seen + 1))

-- such a byte, or the colon of a header name, ends a word
abbrev pub EndsWord : ℕ → Type 0
EndsWord byte = (before : Pending) (kind : HoaKind) → before.mode ≡ Word kind → IsEndedBy byte before

-- a byte means itself in a string: neither a quote nor a backslash
abbrev pub is_quoted : ℕ → Bool
is_quoted byte = not (byte == 34) && not (byte == 92)

-- units were read after a place: up to another at which none has been begun, or with one that has
abbrev pub IsSimple : ℕ → List ℕ → ℕ → Simple → Type 0
IsSimple start bytes place (Ended end) =
    (place < end) × Passes start bytes place end (fresh start) (fresh (start + (end - place)))
IsSimple start bytes place (Begun pending end) = Passes start bytes place end (fresh start) pending

-- a unit is being read at a place, and places can be counted further by this number
abbrev pub IsOnWayFor : ℕ → Pending → ℕ → Type 0
IsOnWayFor count pending place = (seen : List ℕ) × (lexemes : List (Lexeme HoaKind))
    × (place ≡ length seen) × IsAt Any seen lexemes pending × (place + count < 2 ^ 64)
