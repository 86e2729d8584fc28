-- A unit that is being read, as a tokenizer keeps it.
use Rattle.std.specs.Prelude.{◌≡◌, ◌≢◌, ℕ, ◌+◌, ◌<◌, ◌≤◌, true, Option, Some, None, List, [], ◌∷◌, ◌++◌}
use Rattle.omega_text.specs.Limits.{most_number}
use Rattle.omega_text.specs.declared.hoa.kind.HoaKind.{HoaKind}
use Rattle.omega_text.specs.declared.hoa.kind.HoaKind.TheVariants.{AliasName, Int}
use Rattle.omega_text.specs.declared.hoa.mode.Mode.{Mode}
use Rattle.omega_text.specs.declared.hoa.mode.Mode.TheVariants.{Start, Word, Alias, Digits, Whole, Blank}
use Rattle.omega_text.specs.declared.hoa.pending.Pending.{Pending}
use Rattle.omega_text.specs.declared.hoa.placed.PlacedToken.{PlacedToken}
use Rattle.omega_text.specs.declared.refusal.text.TextFault.{TextFault}
use Rattle.omega_text.specs.declared.refusal.text.TextFault.TheVariants.{Lex, Number}
use Rattle.omega_text.specs.Bytes.{is_digit}
use Rattle.omega_text.specs.Forms.{IsDigits}
use Rattle.omega_text.specs.private.hoa.scanning.Reading.{IsValueOf}

-- nothing of a unit
abbrev pub fresh : ℕ → Pending
fresh start = record { mode = Start; start = start; value = 0 }

-- a token of this kind, value and place
pub record IsPlaced (token : PlacedToken) (kind : HoaKind) (value start end : ℕ) : Type 0 where
  pub kind_is : token.kind ≡ kind
  pub value_is : token.value ≡ value
  pub start_is : token.span.start ≡ start
  pub end_is : token.span.end ≡ end

-- digits with one more, which ends at a place, have their value
pub record ValueGrows (before : Pending) (byte end value : ℕ) : Type 0 where
  pub first : end ≡ before.start + 1 → is_digit byte ≡ true → IsValueOf value (byte ∷ [])
  pub later : end ≢ before.start + 1 → (text : List ℕ) → IsDigits text → is_digit byte ≡ true
      → IsValueOf before.value text → IsValueOf value (text ++ byte ∷ [])

-- the same unit, read further
pub record Continues (before : Pending) (next : Mode) (after : Pending)
    (token : Option PlacedToken) : Type 0 where
  pub mode : after.mode ≡ next
  pub start : after.start ≡ before.start
  pub none : token ≡ None

-- a unit with one byte more: whole, as a token or as a part of a gap, or read further
abbrev pub IsGrown : Pending → ℕ → ℕ → Mode → Pending → Option PlacedToken → Type 0
IsGrown before byte end (Whole kind) after token = (after ≡ fresh end)
    × ((placed : PlacedToken) × (token ≡ Some placed) × IsPlaced placed kind 0 before.start end)
IsGrown before byte end Blank after token = (after ≡ fresh end) × (token ≡ None)
IsGrown before byte end Digits after token =
    Continues before Digits after token × ValueGrows before byte end after.value
IsGrown before byte end next after token = Continues before next after token

-- the token that a unit is if it ends here
abbrev pub IsTokenIn : Mode → ℕ → ℕ → ℕ → PlacedToken → Type 0
IsTokenIn (Word kind) value start end token = IsPlaced token kind 0 start end
IsTokenIn Alias value start end token = IsPlaced token AliasName 0 start end
IsTokenIn Digits value start end token = (value ≤ most_number) × IsPlaced token Int value start end
IsTokenIn mode value start end token = ⊥

-- the fault of a unit that is no token if it ends here
abbrev pub IsFaultIn : Mode → ℕ → ℕ → TextFault → Type 0
IsFaultIn (Word kind) value start fault = ⊥
IsFaultIn Alias value start fault = ⊥
IsFaultIn Digits value start fault = (fault ≡ Number start) × (most_number < value)
IsFaultIn mode value start fault = fault ≡ Lex start
