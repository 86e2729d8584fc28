-- The form in which a circuit is written.
use Rattle.std.specs.Prelude.{Bool, true, false}
use Rattle.omega_answers_circuit.specs.declared.circuit_form.CircuitForm.{CircuitForm}
use Rattle.omega_answers_circuit.specs.declared.circuit_form.CircuitForm.TheVariants.{Ascii, Binary}

-- the binary form if that is asked for, else the ASCII form
abbrev pub form_for : (binary : Bool) → CircuitForm
form_for true = Binary
form_for false = Ascii
