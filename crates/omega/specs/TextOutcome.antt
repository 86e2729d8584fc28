-- How a call ends that is given one text or two: which number says what.
use Rattle.std.specs.Prelude.{◌-◌, ◌^◌, ℕ, Option, None, Some}
use Rattle.omega_text.specs.declared.refusal.Refusal.{Refusal}
use Rattle.omega_text.specs.declared.refusal.Refusal.TheVariants.{Memory}
use Rattle.omega_text.specs.Refusal.{number_of, place_of}
use Rattle.omega_io.specs.Refused.{about_none}
use Rattle.omega_io.specs.declared.exit.Exit.{Exit}
use Rattle.omega_io.specs.declared.exit.Exit.TheVariants.{Done, No}
use Rattle.omega_io.specs.declared.refused.Refused.{Refused}
use Rattle.omega_io.specs.declared.refused.Which.{Which}
use Rattle.omega_io.specs.declared.refused.Which.TheVariants.{File, Input}
use Rattle.omega.specs.declared.text_outcome.TextOutcome.{TextOutcome}

-- the place of what has none
abbrev pub no_place : ℕ
no_place = 2 ^ 64 - 1

-- the number of a place
abbrev pub number_at : Option ℕ → ℕ
number_at None = no_place
number_at (Some at) = at

-- the place of a refusal
abbrev pub place_number : Refusal → ℕ
place_number refusal = number_at (place_of refusal)

-- the number of a text, the input first
abbrev pub text_number : Option Which → ℕ
text_number None = 0
text_number (Some Input) = 1
text_number (Some File) = 2

-- an answer was given
abbrev pub given : TextOutcome
given = record { number = 0; text = 0; place = no_place }

-- a refusal, of a text or of none
abbrev pub outcome_of : Refused → TextOutcome
outcome_of refused = record {
  number = number_of refused.refusal;
  text = text_number refused.text;
  place = place_number refused.refusal;
}

-- a refusal of a call that is given one text is about it; want of memory is about none
abbrev pub about_input : Refusal → Refused
about_input Memory = about_none Memory
about_input refusal = record { refusal = refusal; text = Some Input }

-- the number of a verdict: 1 for yes, 0 for no
abbrev pub verdict_number : Exit → ℕ
verdict_number Done = 1
verdict_number No = 0
