-- At which places a game text can't be cut.
use Rattle.std.specs.Prelude.{◌≡◌, ℕ, ◌<◌, false, ◌⊎◌, List, length, take, drop, slice_index}
use Rattle.omega_text.specs.Bytes.{is_white}
use Rattle.omega_text.specs.pg.Cut.{IsGap}
use Rattle.omega_text.specs.Forms.{IsDigits, IsWord}
use Rattle.omega_text.specs.pg.Forms.{IsForm, IsLongest, IsNoToken}
use Rattle.omega_text.specs.declared.refusal.text.TextFault.{TextFault}
use Rattle.omega_text.specs.declared.refusal.text.TextFault.TheVariants.{Lex, Number, Syntax, TooLong}

-- no front of the bytes is a form
abbrev pub BeginsNoForm : List ℕ → Type 0
BeginsNoForm bytes = (count : ℕ) → IsForm (take count bytes) → ⊥

-- the longest form that the bytes begin with is a word that is no token
pub record BeginsWrongWord (bytes : List ℕ) : Type 0 where
  pub count : ℕ
  pub longest : IsLongest bytes count
  pub word : IsWord (take count bytes)
  pub wrong : IsNoToken (take count bytes)

-- the longest form that the bytes begin with is digits that are no number
pub record BeginsWrongDigits (bytes : List ℕ) : Type 0 where
  pub count : ℕ
  pub longest : IsLongest bytes count
  pub digits : IsDigits (take count bytes)
  pub wrong : IsNoToken (take count bytes)

-- the fault of bytes at this place that begin no token
abbrev pub IsFaultOf : List ℕ → ℕ → TextFault → Type 0
IsFaultOf bytes place (Lex at) = (at ≡ place) × (BeginsNoForm bytes ⊎ BeginsWrongWord bytes)
IsFaultOf bytes place (Number at) = (at ≡ place) × BeginsWrongDigits bytes
IsFaultOf bytes place (Syntax at) = ⊥
IsFaultOf bytes place TooLong = ⊥

-- from a place on, a gap follows and then bytes that are not white and begin no token
pub record HasFaultFrom (source : List ℕ) (from : ℕ) (fault : TextFault) : Type 0 where
  pub place : ℕ
  pub gap : IsGap source from place
  pub more : place < length source
  pub black : is_white (slice_index source place) ≡ false
  pub fault_there : IsFaultOf (drop place source) place fault
