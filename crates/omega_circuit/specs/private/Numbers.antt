-- Literals by the numbers of their variables: the places among those that are defined.
use Rattle.std.specs.Prelude.{◌≡◌, ◌<◌, ◌+◌, ◌*◌, ◌/◌, ◌%◌, ℕ, List, length, map, slice_index, slice_index_or}
use Rattle.omega_circuit.specs.Circuit.{CircuitValue}
use Rattle.omega_circuit.specs.declared.gate.Gate.{Gate}
use Rattle.omega_circuit.specs.declared.latch.Latch.{Latch}

-- the gate at a place; one of false beyond
abbrev pub gate_at : List Gate → ℕ → Gate
gate_at gates k = slice_index_or gates k (record { literal = 0; left = 0; right = 0 })

-- the number of the first gate's variable
abbrev pub first_gate : CircuitValue → ℕ
first_gate c = 1 + length c.inputs + length c.latches

-- a literal, and the same with the number of its variable in the place of the variable
pub record IsNumbered (variables : List ℕ) (literal number : ℕ) : Type 0 where
  pub within : number / 2 < length variables
  pub variable : slice_index variables (number / 2) ≡ literal / 2
  pub sign : number % 2 ≡ literal % 2

-- literals, and the same with the numbers of their variables
pub record AreNumbered (variables literals numbers : List ℕ) : Type 0 where
  pub long : length numbers ≡ length literals
  pub each : (k : ℕ) → k < length literals
      → IsNumbered variables (slice_index literals k) (slice_index numbers k)

-- the literals whose values latches take
abbrev pub next_literals : List Latch → List ℕ
next_literals latches = map (λ (latch : Latch). latch.next) latches

-- a gate, and the same with numbered literals
pub record IsNet (variables : List ℕ) (own : ℕ) (gate net : Gate) : Type 0 where
  pub numbered : net.literal ≡ 2 * own
  pub left : IsNumbered variables gate.left net.left
  pub right : IsNumbered variables gate.right net.right

-- gates, and the same with numbered literals, their own variables numbered in order
pub record AreNets (variables : List ℕ) (first : ℕ) (gates nets : List Gate) : Type 0 where
  pub long : length nets ≡ length gates
  pub each : (k : ℕ) → k < length gates → IsNet variables (first + k) (gate_at gates k) (gate_at nets k)
