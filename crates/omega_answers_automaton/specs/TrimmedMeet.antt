-- The answer of `meet --trim` for the texts of two automata, that of a file and that of the input: the canonical text
-- of their product without its useless states; and its refusals.
use Rattle.std.specs.Prelude.{◌⊎◌, List, ℕ}
use Rattle.omega_text.specs.declared.refusal.Refusal.{Refusal}
use Rattle.omega_hoa_automaton.specs.Automaton.{Description}
use Rattle.omega_io.specs.declared.refused.Refused.{Refused}
use Rattle.omega_lang_product.specs.Limits.{IsWithin}
use Rattle.omega_lang_product.specs.Product.{IsProduct}
use Rattle.omega_lang_product.specs.Refusing.{HaveNoBranch, IsProductRefusal}
use Rattle.omega_lang_product.specs.Written.{IsWritten}
use Rattle.omega_lang_trim.specs.Refusing.{IsTrimRefusal}
use Rattle.omega_answers.specs.TwoAutomata.{IsRefusalOfTexts, OfAutomata}
use Rattle.omega_answers.specs.TwoTexts.{IsAboutNeither}
use Rattle.omega_answers_automaton.specs.Trim.{IsTrimText}

-- the product of two automata without universal branching, within the limits
pub record IsMeeting (first second product : Description) : Type 0 where
  pub given : HaveNoBranch first second
  pub is : IsProduct first second product
  pub written : IsWritten first second product
  pub within : IsWithin product

-- the canonical text of the product of two automata without its useless states
pub record IsTrimmedProductText (first second : Description) (output : List ℕ) : Type 0 where
  pub product : Description
  pub meeting : IsMeeting first second product
  pub trimmed : IsTrimText product output

-- the trimming of the product of two automata is refused
pub record RefusesTrimming (first second : Description) (refusal : Refusal) : Type 0 where
  pub product : Description
  pub meeting : IsMeeting first second product
  pub refused : IsTrimRefusal product refusal

-- the product is refused, or else its trimming
abbrev pub IsTrimmedProductRefusal : Description → Description → Refusal → Type 0
IsTrimmedProductRefusal first second refusal =
    IsProductRefusal first second refusal ⊎ RefusesTrimming first second refusal

-- the answer of `meet --trim`: both texts are those of automata, and the canonical text of their product without its
-- useless states is written
abbrev pub IsMeetTrimmedAnswer : (file input output : List ℕ) → Type 0
IsMeetTrimmedAnswer file input output =
    OfAutomata (λ second first. IsTrimmedProductText first second output) file input

-- the refusal of `meet --trim`: that of one of the texts, or else that of the product, or else that of its trimming,
-- which are about neither
abbrev pub IsMeetTrimmedRefused : (file input : List ℕ) → Refused → Type 0
IsMeetTrimmedRefused =
    IsRefusalOfTexts (λ second first. IsAboutNeither (IsTrimmedProductRefusal first second))
