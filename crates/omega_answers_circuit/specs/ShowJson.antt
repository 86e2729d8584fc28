-- The answer of `show --json` for the text of a circuit: a JSON object on one line.
use Rattle.std.specs.Prelude.{◌≡◌, ◌++◌, List, ℕ, codes, length}
use Rattle.omega_answers_circuit.specs.Circuit.{OfCircuit}
use Rattle.omega_answers_circuit.specs.Show.{count_text}
use Rattle.omega_circuit.specs.Circuit.{CircuitValue}

-- the object of a circuit: its numbers of inputs, latches, outputs and gates
abbrev pub sizes_object : CircuitValue → List ℕ
sizes_object c = count_text (codes "{\"inputs\":") (length c.inputs)
    ++ (count_text (codes ",\"latches\":") (length c.latches)
    ++ (count_text (codes ",\"outputs\":") (length c.outputs)
    ++ (count_text (codes ",\"gates\":") (length c.gates) ++ codes "}\n")))

-- the answer of `show --json`: the text is that of a circuit, and its object is written
abbrev pub IsCircuitShowJsonAnswer : (text output : List ℕ) → Type 0
IsCircuitShowJsonAnswer text output = OfCircuit (λ circuit. output ≡ sizes_object circuit) text
