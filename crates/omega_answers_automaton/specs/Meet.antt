-- The answer of `meet` for the texts of two automata, that of a file and that of the input: the canonical text of their
-- product; and its refusals.
use Rattle.std.specs.Prelude.{◌≡◌, ℕ, List}
use Rattle.omega_hoa_automaton.specs.Automaton.{Description}
use Rattle.omega_canon.specs.Canonical.{canonical_automaton}
use Rattle.omega_io.specs.declared.refused.Refused.{Refused}
use Rattle.omega_lang_product.specs.Limits.{IsWithin}
use Rattle.omega_lang_product.specs.Product.{IsProduct}
use Rattle.omega_lang_product.specs.Refusing.{HaveNoBranch, IsProductRefusal}
use Rattle.omega_lang_product.specs.Written.{IsWritten}
use Rattle.omega_answers.specs.TwoAutomata.{IsRefusalOfTexts, OfAutomata}
use Rattle.omega_answers.specs.TwoTexts.{IsAboutNeither}

-- the canonical text of the product of two automata without universal branching
pub record IsProductText (first second : Description) (output : List ℕ) : Type 0 where
  pub given : HaveNoBranch first second
  pub product : Description
  pub product_is : IsProduct first second product
  pub product_written : IsWritten first second product
  pub within : IsWithin product
  pub written : output ≡ canonical_automaton product

-- the answer of `meet`: both texts are those of automata, and the canonical text of their product is written, the
-- automaton of the input first
abbrev pub IsMeetAnswer : (file input output : List ℕ) → Type 0
IsMeetAnswer file input output =
    OfAutomata (λ second first. IsProductText first second output) file input

-- the refusal of `meet`: that of one of the texts, or else that of the product, which is about neither
abbrev pub IsMeetRefused : (file input : List ℕ) → Refused → Type 0
IsMeetRefused = IsRefusalOfTexts (λ second first. IsAboutNeither (IsProductRefusal first second))
