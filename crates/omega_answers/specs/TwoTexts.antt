-- Two texts, that of a file and that of the input: what holds of what they say, and which of them is refused.
use Rattle.std.specs.Prelude.{◌≡◌, None}
use Rattle.omega_text.specs.declared.refusal.Refusal.{Refusal}
use Rattle.omega_io.specs.Refused.{IsRefusedOf}
use Rattle.omega_io.specs.declared.refused.Refused.{Refused}

-- what the text of the file says, and what that of the input says, are such that this holds of the two
pub record OfBoth {A B : Type 0} (IsOfFile : A → Type 0) (IsOfInput : B → Type 0)
    (Holds : A → B → Type 0) : Type 0 where
  pub file : A
  pub file_read : IsOfFile file
  pub input : B
  pub input_read : IsOfInput input
  pub holds : Holds file input

-- the text of the file is refused, or it says something and the text of the input is refused, or memory is
abbrev pub IsEitherRefused : {A : Type 0} (IsOfFile : A → Type 0)
    (RefusesFile RefusesInput : Refusal → Type 0) → Refused → Type 0
IsEitherRefused {A} IsOfFile RefusesFile RefusesInput =
    IsRefusedOf RefusesFile (λ refusal. (file : A) × IsOfFile file × RefusesInput refusal)

-- such a refusal, which is about neither text
abbrev pub IsAboutNeither : (Refusal → Type 0) → Refused → Type 0
IsAboutNeither Refuses refused = (refused.text ≡ None) × Refuses refused.refusal
