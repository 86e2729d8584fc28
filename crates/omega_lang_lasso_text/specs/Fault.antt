-- Faults at which a lasso text can't be cut into tokens.
use Rattle.std.specs.Prelude.{◌≡◌, ◌≢◌, ℕ, ◌<◌, false, ◌⊎◌, List, length, take, drop, slice_index, codes}
use Rattle.omega_text.specs.Bytes.{is_white}
use Rattle.omega_text.specs.Forms.{IsDigits}
use Rattle.omega_text.specs.declared.refusal.text.TextFault.{TextFault}
use Rattle.omega_text.specs.declared.refusal.text.TextFault.TheVariants.{Lex, Number, Syntax, TooLong}
use Rattle.omega_text.specs.pg.Cut.{IsGap}
use Rattle.omega_text.specs.pg.Fault.{BeginsNoForm, BeginsWrongDigits}
use Rattle.omega_text.specs.pg.Forms.{IsLongest}

-- the longest form at the front of the bytes is not digits, and neither of the two words
pub record BeginsOther (bytes : List ℕ) : Type 0 where
  pub count : ℕ
  pub longest : IsLongest bytes count
  pub no_digits : IsDigits (take count bytes) → ⊥
  pub no_stem : take count bytes ≢ codes "stem"
  pub no_cycle : take count bytes ≢ codes "cycle"

-- the fault of bytes that begin no token, at this place
abbrev pub IsFaultOf : List ℕ → ℕ → TextFault → Type 0
IsFaultOf bytes place (Lex at) = (at ≡ place) × (BeginsNoForm bytes ⊎ BeginsOther bytes)
IsFaultOf bytes place (Number at) = (at ≡ place) × BeginsWrongDigits bytes
IsFaultOf bytes place (Syntax at) = ⊥
IsFaultOf bytes place TooLong = ⊥

-- from the place `from` on, a gap follows and then bytes that are not white and begin no token
pub record HasFaultFrom (source : List ℕ) (from : ℕ) (fault : TextFault) : Type 0 where
  pub place : ℕ
  pub gap : IsGap source from place
  pub more : place < length source
  pub black : is_white (slice_index source place) ≡ false
  pub fault_there : IsFaultOf (drop place source) place fault
