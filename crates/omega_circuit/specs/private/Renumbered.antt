-- Circuits with renumbered variables: in the place of a variable stands its number in a list of variables.
use Rattle.std.specs.Prelude.{◌≡◌, ◌<◌, ◌+◌, ◌*◌, ◌/◌, ℕ, ◌⊎◌, List, [], ◌∷◌, ◌++◌, length, map, nat_eq, nat_lt}
use Rattle.std.specs.Prelude.{slice_index, slice_index_or, take, if◌then◌else◌}
use Rattle.std.specs.List.{Contains, IsDistinct, range_with_len}
use Rattle.omega_circuit.specs.Circuit.{CircuitValue}
use Rattle.omega_circuit.specs.private.Numbers.{AreNumbered, IsNumbered, gate_at}
use Rattle.omega_circuit.specs.declared.gate.Gate.{Gate}
use Rattle.omega_circuit.specs.declared.latch.Latch.{Latch}

-- the latch at a place; one of false beyond
abbrev pub latch_at : List Latch → ℕ → Latch
latch_at latches k = slice_index_or latches k (record { literal = 0; next = 0; reset = 0 })

-- a latch, and the same renumbered
pub record IsLatchOf (variables : List ℕ) (latch made : Latch) : Type 0 where
  pub literal : IsNumbered variables latch.literal made.literal
  pub next : IsNumbered variables latch.next made.next
  pub reset : made.reset ≡ latch.reset

-- a gate, and the same renumbered, its operands perhaps exchanged
pub record IsGateOf (variables : List ℕ) (gate made : Gate) : Type 0 where
  pub literal : IsNumbered variables gate.literal made.literal
  pub operands : (IsNumbered variables gate.left made.left × IsNumbered variables gate.right made.right)
      ⊎ (IsNumbered variables gate.left made.right × IsNumbered variables gate.right made.left)

-- latches, and the same renumbered
pub record AreLatchesOf (variables : List ℕ) (latches made : List Latch) : Type 0 where
  pub long : length made ≡ length latches
  pub each : (k : ℕ) → k < length latches → IsLatchOf variables (latch_at latches k) (latch_at made k)

-- gates, and the same renumbered, in any order
pub record AreGatesOf (variables : List ℕ) (gates made : List Gate) : Type 0 where
  pub long : length made ≡ length gates
  pub sources : (j : ℕ) → j < length made
      → (k : ℕ) × (k < length gates) × IsGateOf variables (gate_at gates k) (gate_at made j)
  pub images : (k : ℕ) → k < length gates
      → (j : ℕ) × (j < length made) × IsGateOf variables (gate_at gates k) (gate_at made j)

-- a circuit, and the same renumbered
pub record IsRenumbered (variables : List ℕ) (c d : CircuitValue) : Type 0 where
  pub constant : slice_index variables 0 ≡ 0
  pub apart : IsDistinct nat_eq variables
  pub inputs : AreNumbered variables c.inputs d.inputs
  pub latches : AreLatchesOf variables c.latches d.latches
  pub outputs : AreNumbered variables c.outputs d.outputs
  pub gates : AreGatesOf variables c.gates d.gates
  pub symbols : c.symbols ≡ d.symbols

-- the variable of a gate
abbrev pub own : Gate → ℕ
own gate = gate.literal / 2

-- an operand is no gate, or one of these
abbrev pub IsEarlier : (first : ℕ) → List Gate → ℕ → Type 0
IsEarlier first front literal = (literal / 2 < first) ⊎ Contains (map own front) (literal / 2)

-- gates of which each comes after those that it uses
abbrev pub AreReady : (first : ℕ) → List Gate → Type 0
AreReady first steps = (i : ℕ) → i < length steps
    → IsEarlier first (take i steps) (gate_at steps i).left
    × IsEarlier first (take i steps) (gate_at steps i).right

-- numbers in a new order: those that are no gates, and then those of gates, each after those that it uses
pub record IsNumbering (first : ℕ) (steps : List Gate) (numbers : List ℕ) (nets : List Gate) : Type 0 where
  pub order : numbers ≡ range_with_len 0 first ++ map own nets
  pub apart : IsDistinct nat_eq numbers
  pub some : (j : ℕ) → j < length nets → Contains steps (gate_at nets j)
  pub every : (i : ℕ) → i < length steps → Contains numbers (own (gate_at steps i))
  pub ready : (j : ℕ) → j < length nets
      → Contains (take (first + j) numbers) ((gate_at nets j).left / 2)
      × Contains (take (first + j) numbers) ((gate_at nets j).right / 2)

-- a gate is added behind numbers and gates, or its number is there already
abbrev pub AddsNet : (numbers new_numbers : List ℕ) (nets new_nets : List Gate) → Gate → Type 0
AddsNet numbers new_numbers nets new_nets net =
    ((new_numbers ≡ numbers ++ own net ∷ []) × (new_nets ≡ nets ++ net ∷ []))
    ⊎ (Contains numbers (own net) × (new_numbers ≡ numbers) × (new_nets ≡ nets))

-- a gate with its operands exchanged
abbrev pub exchanged_gate : Gate → Gate
exchanged_gate gate = record { literal = gate.literal; left = gate.right; right = gate.left }

-- a gate with its greater operand first
abbrev pub greater_first : Gate → Gate
greater_first gate = if nat_lt gate.left gate.right then exchanged_gate gate else gate

-- latches with these next literals and with the variables from a first one on
pub record AreLatchesFrom (first : ℕ) (latches : List Latch) (nexts : List ℕ) (made : List Latch)
    : Type 0 where
  pub long : length made ≡ length latches
  pub each : (k : ℕ) → k < length latches → latch_at made k
      ≡ record { literal = 2 * (first + k); next = slice_index nexts k; reset = (latch_at latches k).reset }
