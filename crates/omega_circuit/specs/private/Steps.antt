-- How the gates of a circuit are evaluated: one after the other, in an order.
use Rattle.std.specs.Prelude.{◌≡◌, ◌<◌, ◌/◌, ℕ, Bool, List, [], ◌∷◌, All, map, slice_set}
use Rattle.omega_circuit.specs.Circuit.{CircuitValue, defined_variables}
use Rattle.omega_circuit.specs.Rounds.{gate_value}
use Rattle.omega_circuit.specs.private.Numbers.{AreNets, first_gate, gate_at}
use Rattle.omega_circuit.specs.private.Orders.{IsWholeOrder, flag_at}
use Rattle.omega_circuit.specs.declared.gate.Gate.{Gate}
use Rattle.omega_circuit.specs.declared.latch.Latch.{Latch}
use Rattle.omega_circuit.specs.declared.symbol.Symbol.{Symbol}

-- the circuit of these parts
abbrev pub circuit_with : List ℕ → List Latch → List ℕ → List Gate → List Symbol → CircuitValue
circuit_with inputs latches outputs gates symbols = record {
  inputs = inputs;
  latches = latches;
  outputs = outputs;
  gates = gates;
  symbols = symbols;
}

-- gates with numbered literals, in an order in which each comes after those that it uses
pub record AreSteps (c : CircuitValue) (steps : List Gate) : Type 0 where
  pub nets : List Gate
  pub numbered : AreNets (defined_variables c) (first_gate c) c.gates nets
  pub order : List ℕ
  pub ordered : IsWholeOrder (first_gate c) nets order
  pub same : steps ≡ map (gate_at nets) order

-- the values by number after some steps
abbrev pub evaluated : List Gate → List Bool → List Bool
evaluated [] values = values
evaluated (step ∷ steps) values =
    evaluated steps (slice_set values (step.literal / 2) (gate_value (flag_at values) step))

-- the literals of steps have numbers below a count
abbrev pub AreWithin : ℕ → List Gate → Type 0
AreWithin count steps = All (λ (step : Gate). (step.literal / 2 < count) × (step.left / 2 < count)
    × (step.right / 2 < count)) steps
