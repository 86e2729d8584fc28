-- The answer of `check` for the text of a circuit.
use Rattle.std.specs.Prelude.{◌≡◌, List, ℕ, codes}
use Rattle.omega_answers_circuit.specs.Circuit.{OfCircuit}

-- the answer of `check`: the text is that of a circuit, and `accepted` is written
abbrev pub IsCircuitCheckAnswer : (text output : List ℕ) → Type 0
IsCircuitCheckAnswer text output = OfCircuit (λ circuit. output ≡ codes "accepted\n") text
