-- The canonical form of circuits: variables without gaps, of the inputs, the latches and the gates in order.
use Rattle.std.specs.Prelude.{◌≡◌, ◌<◌, ◌≤◌, ◌+◌, ◌*◌, ℕ, length, slice_index, slice_index_or}
use Rattle.omega_circuit.specs.Circuit.{CircuitValue}
use Rattle.omega_circuit.specs.declared.gate.Gate.{Gate}
use Rattle.omega_circuit.specs.declared.latch.Latch.{Latch}

-- a latch with this variable that begins with 0
pub record IsCanonicalLatch (variable : ℕ) (latch : Latch) : Type 0 where
  pub own : latch.literal ≡ 2 * variable
  pub reset : latch.reset ≡ 0

-- a gate with this variable, of lesser literals, the greater first
pub record IsCanonicalGate (variable : ℕ) (gate : Gate) : Type 0 where
  pub own : gate.literal ≡ 2 * variable
  pub rises : gate.left < gate.literal
  pub sorted : gate.right ≤ gate.left

-- variables from 1 on: those of the inputs, then of the latches, then of the gates
pub record IsCanonical (c : CircuitValue) : Type 0 where
  pub inputs : (k : ℕ) → k < length c.inputs → slice_index c.inputs k ≡ 2 * (1 + k)
  pub latches : (k : ℕ) (d : Latch) → k < length c.latches
      → IsCanonicalLatch (1 + length c.inputs + k) (slice_index_or c.latches k d)
  pub gates : (k : ℕ) (d : Gate) → k < length c.gates
      → IsCanonicalGate (1 + length c.inputs + length c.latches + k) (slice_index_or c.gates k d)
