-- The answer of `show` for the text of a circuit: its sizes.
use Rattle.std.specs.Prelude.{◌≡◌, ◌++◌, List, ℕ, codes, decimal, length}
use Rattle.omega_answers_circuit.specs.Circuit.{OfCircuit}
use Rattle.omega_circuit.specs.Circuit.{CircuitValue}

-- a count, and before it the name of what is counted
abbrev pub count_text : List ℕ → ℕ → List ℕ
count_text what count = what ++ decimal count

-- the line of a circuit: its numbers of inputs, latches, outputs and gates
abbrev pub sizes_line : CircuitValue → List ℕ
sizes_line c = count_text (codes "circuit inputs ") (length c.inputs)
    ++ (count_text (codes " latches ") (length c.latches)
    ++ (count_text (codes " outputs ") (length c.outputs)
    ++ (count_text (codes " gates ") (length c.gates) ++ codes "\n")))

-- the answer of `show`: the text is that of a circuit, and its line is written
abbrev pub IsCircuitShowAnswer : (text output : List ℕ) → Type 0
IsCircuitShowAnswer text output = OfCircuit (λ circuit. output ≡ sizes_line circuit) text
