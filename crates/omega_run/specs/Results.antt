-- What a result says of a refusal, and which text that is about.
use Rattle.std.specs.Prelude.{List, Option, None, Result, Ok, Err, ℕ}
use Rattle.omega_text.specs.declared.refusal.Refusal.{Refusal}
use Rattle.omega_io.specs.declared.exit.Exit.{Exit}
use Rattle.omega_io.specs.declared.refused.Refused.{Refused}
use Rattle.omega_io.specs.declared.refused.Which.{Which}
use Rattle.omega_io.specs.declared.refused.Which.TheVariants.{Input}
use Rattle.omega_io.specs.Refused.{about}

-- the same result, but not which text a refusal is about
abbrev pub plain : {T : Type 0} → Result T Refused → Result T Refusal
plain (Ok value) = Ok value
plain (Err refused) = Err refused.refusal

-- which text the refusal is about, if any
abbrev pub text_in : {T : Type 0} → Result T Refused → Option Which
text_in (Ok value) = None
text_in (Err refused) = refused.text

-- the same result, with the bytes of its text
abbrev pub with_bytes : {T E : Type 0} → (T → List ℕ) → Result (Exit × T) E → Result (Exit × List ℕ) E
with_bytes bytes_of (Ok reply) = Ok (reply.0, bytes_of reply.1)
with_bytes bytes_of (Err refusal) = Err refusal

-- the same result, whose refusal is about the text of the input
abbrev pub of_input : {T : Type 0} → Result T Refusal → Result T Refused
of_input (Ok value) = Ok value
of_input (Err refusal) = Err (about Input refusal)
