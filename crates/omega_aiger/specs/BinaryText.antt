-- The text of a circuit in the binary form, as it is written here, and what is read of texts that are written.
use Rattle.std.specs.Prelude.{◌≤◌, ◌+◌, ◌-◌, ◌/◌, ◌%◌, ℕ, zero, suc, List, [], ◌∷◌, ◌++◌, codes, decimal, length}
use Rattle.std.specs.Prelude.{nat_lt, if◌then◌else◌}
use Rattle.std.specs.List.{flat_map}
use Rattle.omega_aiger.specs.Text.{IsCircuitText}
use Rattle.omega_aiger.specs.Written.{IsWritableAs, count_text, number_text, reset_text, symbol_text}
use Rattle.omega_circuit.specs.Canonical.{IsCanonicalCircuit, MeanTheSame}
use Rattle.omega_circuit.specs.Circuit.{CircuitValue, IsCircuit}
use Rattle.omega_circuit.specs.declared.gate.Gate.{Gate}
use Rattle.omega_circuit.specs.declared.latch.Latch.{Latch}
use Rattle.omega_text.specs.Limits.{most_text}

-- the bytes of a number, with at most so many before the last
abbrev pub delta_bytes : ℕ → ℕ → List ℕ
delta_bytes zero n = n % 128 ∷ []
delta_bytes (suc most) n = if nat_lt n 128 then n ∷ [] else (n % 128 + 128) ∷ delta_bytes most (n / 128)

-- the bytes of a delta
abbrev pub delta_text : ℕ → List ℕ
delta_text n = delta_bytes 4 n

-- the two deltas of a gate
abbrev pub deltas_text : Gate → List ℕ
deltas_text gate = delta_text (gate.literal - gate.left) ++ delta_text (gate.left - gate.right)

-- the line of a latch without its literal
abbrev pub next_text : Latch → List ℕ
next_text latch = decimal latch.next ++ reset_text latch.reset

-- what follows the first line
abbrev pub binary_rest : CircuitValue → List ℕ
binary_rest c = flat_map next_text c.latches ++ (flat_map number_text c.outputs
    ++ (flat_map deltas_text c.gates ++ flat_map symbol_text c.symbols))

-- the first line
abbrev pub binary_counts : CircuitValue → List ℕ
binary_counts c = codes "aig" ++ (count_text (length c.inputs + length c.latches + length c.gates)
    ++ (count_text (length c.inputs) ++ (count_text (length c.latches) ++ (count_text (length c.outputs)
    ++ (count_text (length c.gates) ++ 10 ∷ [])))))

-- the text of a circuit in canonical form
unfoldable pub binary_text : CircuitValue → List ℕ
binary_text c = binary_counts c ++ binary_rest c

-- the binary text that is written for a circuit in canonical form says it
abbrev pub BinaryCircuitsAreRead : Type 0
BinaryCircuitsAreRead = (c : CircuitValue) → IsCanonicalCircuit c → IsWritableAs binary_text c
    → IsCircuitText (binary_text c) c

-- both texts of a circuit that means the same as one that some text says can be written, if they are within the limit
abbrev pub SameCircuitsAreWritable : Type 0
SameCircuitsAreWritable = (text : List ℕ) (c d : CircuitValue) → IsCircuitText text c → IsCircuit d
    → MeanTheSame c d → (written : CircuitValue → List ℕ) → length (written d) ≤ most_text
    → IsWritableAs written d
