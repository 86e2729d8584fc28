-- Laws of the texts of circuits, whatever reads or writes them.
use Rattle.std.specs.Prelude.{◌≡◌, ℕ, List}
use Rattle.omega_aiger.specs.Text.{IsCircuitText, IsCircuitTextRefusal}
use Rattle.omega_circuit.specs.Circuit.{CircuitValue}
use Rattle.omega_text.specs.declared.refusal.Refusal.{Refusal}

-- a text says at most one circuit
abbrev pub CircuitsOfTextsAreOne : Type 0
CircuitsOfTextsAreOne = (text : List ℕ) (one other : CircuitValue)
    → IsCircuitText text one → IsCircuitText text other → one ≡ other

-- a text that says a circuit has no refusal
abbrev pub CircuitsAreNotRefused : Type 0
CircuitsAreNotRefused = (text : List ℕ) (c : CircuitValue) (refusal : Refusal)
    → IsCircuitText text c → IsCircuitTextRefusal text refusal → ⊥

-- a text has at most one refusal
abbrev pub CircuitRefusalsAreOne : Type 0
CircuitRefusalsAreOne = (text : List ℕ) (one other : Refusal)
    → IsCircuitTextRefusal text one → IsCircuitTextRefusal text other → one ≡ other
