-- How a call of the library ends: which number says what.
use Rattle.omega_text.specs.Refusal.{number_of}
use Rattle.omega_arrays.specs.declared.fault.ArrayFault.{ArrayFault}
use Rattle.omega_arrays.specs.declared.fault.ArrayFault.TheVariants.{BadShape, Refused}
use Rattle.omega.specs.declared.outcome.Outcome.{Outcome}

-- an answer was given
abbrev pub given : Outcome
given = record { number = 0; array = 0; place = 0 }

-- a fault refused the call: 57 with the wrong entry, or the number of the refusal
abbrev pub outcome_of : ArrayFault → Outcome
outcome_of (BadShape wrong) = record { number = 57; array = wrong.array; place = wrong.place }
outcome_of (Refused refusal) = record { number = number_of refusal; array = 0; place = 0 }
