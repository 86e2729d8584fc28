-- What is known of values where some inputs are unknown.
use Rattle.std.specs.Prelude.{◌≡◌, ℕ, Bool, true, false, List, All, slice_index_or}
use Rattle.omega_circuit.specs.Circuit.{CircuitValue, variable_of}
use Rattle.omega_circuit.specs.Rounds.{IsRound, gate_value}
use Rattle.omega_circuit.specs.declared.gate.Gate.{Gate}
pub use Rattle.omega_circuit_automaton.specs.Valuations.{latch_values}
use Rattle.omega_circuit_automaton.specs.declared.ternary.Ternary.{Ternary}
use Rattle.omega_circuit_automaton.specs.declared.ternary.Ternary.TheVariants.{False, True, Unknown}

-- a value is as it is known
abbrev pub Matches : Ternary → Bool → Type 0
Matches False value = value ≡ false
Matches True value = value ≡ true
Matches Unknown value = Unit {0}

-- a value that is known
abbrev pub known : Bool → Ternary
known false = False
known true = True

-- what a list says at a place; nothing beyond
abbrev pub ternary_at : List Ternary → ℕ → Ternary
ternary_at values place = slice_index_or values place Unknown

-- the inputs of a round fit a cube
abbrev pub AreInputs : List ℕ → List Ternary → (ℕ → Bool) → Type 0
AreInputs inputs cube round =
    (k : ℕ) → Matches (ternary_at cube k) (round (variable_of (slice_index_or inputs k 0)))

-- the gates of a round have the values of their operands
abbrev pub AreGates : List Gate → (ℕ → Bool) → Type 0
AreGates gates round = All (λ (gate : Gate). round (variable_of gate.literal) ≡ gate_value round gate) gates

-- a round with these latches, whose inputs fit a cube
pub record IsRoundOf (c : CircuitValue) (latches : List Bool) (cube : List Ternary)
    (round : ℕ → Bool) : Type 0 where
  pub is : IsRound c round
  pub latched : latch_values c.latches round ≡ latches
  pub fits : AreInputs c.inputs cube round
