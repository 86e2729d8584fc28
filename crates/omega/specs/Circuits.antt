-- The form of a circuit that a caller asks for.
use Rattle.std.specs.Prelude.{ℕ}
use Rattle.omega_answers_circuit.specs.declared.circuit_form.CircuitForm.{CircuitForm}
use Rattle.omega_run.specs.CircuitForms.{form_for}
use Rattle.omega.specs.Solving.{asks}

-- the form that a number asks for: with 0 the ASCII form, else the binary one
abbrev pub form_asked : ℕ → CircuitForm
form_asked number = form_for (asks number)
