-- What a refusal says of a text's grammar.
use Rattle.std.specs.Prelude.{Bool, true, false, Result, Ok, Err}
use Rattle.omega_text.specs.declared.refusal.Refusal.{Refusal}
use Rattle.omega_text.specs.declared.refusal.Refusal.TheVariants.{Memory, Text}

-- whether a text with this refusal is in its grammar; memory that was refused says nothing
abbrev pub is_in_grammar : Refusal → Result Bool Refusal
is_in_grammar (Text fault) = Ok false
is_in_grammar Memory = Err Memory
is_in_grammar _ = Ok true
