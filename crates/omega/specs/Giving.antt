-- What a call leaves that gives a text: the text of a right answer, or a refusal, and then what the caller held before.
use Rattle.std.specs.Prelude.{◌≡◌, ◌⊎◌, ℕ, List}
use Rattle.omega_text.specs.declared.refusal.Refusal.{Refusal}
use Rattle.omega_text.specs.declared.refusal.Refusal.TheVariants.{Memory}
use Rattle.omega_io.specs.Refused.{IsAbout}
use Rattle.omega_io.specs.declared.exit.Exit.{Exit}
use Rattle.omega_io.specs.declared.refused.Refused.{Refused}
use Rattle.omega.specs.declared.text.Text.{Text}
use Rattle.omega.specs.declared.text_outcome.TextOutcome.{TextOutcome}
use Rattle.omega.specs.Holding.{Holds}
use Rattle.omega.specs.TextOutcome.{given, outcome_of, verdict_number}

-- a text was given that is right
pub record IsGiven (right : List ℕ → Type 0) (outcome : TextOutcome) (out' : Text) : Type 0 where
  pub outcome_is : outcome ≡ given
  pub output : List ℕ
  pub is_right : right output
  pub held : Holds out' output

-- the call was refused, and the caller holds what it held
pub record IsRefused (refuses : Refused → Type 0) (outcome : TextOutcome)
    (out out' : Text) : Type 0 where
  pub refused : Refused
  pub refuses_so : refuses refused
  pub outcome_is : outcome ≡ outcome_of refused
  pub kept : out' ≡ out

-- what a call leaves that gives a text
abbrev pub IsTextOutcome : (right : List ℕ → Type 0) (refuses : Refused → Type 0) → TextOutcome
    → (out out' : Text) → Type 0
IsTextOutcome right refuses outcome out out' =
    IsGiven right outcome out' ⊎ IsRefused refuses outcome out out'

-- a verdict was given, and with it a text that is right
pub record IsDecided (right : Exit → List ℕ → Type 0) (outcome : TextOutcome) (said' : ℕ)
    (out' : Text) : Type 0 where
  pub exit : Exit
  pub verdict : said' ≡ verdict_number exit
  pub text : IsGiven (right exit) outcome out'

-- what a call leaves that gives a verdict and a text
abbrev pub IsVerdictOutcome : (right : Exit → List ℕ → Type 0) (refuses : Refused → Type 0)
    → TextOutcome → (said said' : ℕ) → (out out' : Text) → Type 0
IsVerdictOutcome right refuses outcome said said' out out' =
    IsDecided right outcome said' out' ⊎ ((said' ≡ said) × IsRefused refuses outcome out out')

-- a refusal of a call that is given one text
abbrev pub IsOneRefused : (Refusal → Type 0) → Refused → Type 0
IsOneRefused refuses refused =
    IsAbout (λ refusal. refusal ≡ Memory) (λ refusal. ⊥) refuses refused.text refused.refusal
