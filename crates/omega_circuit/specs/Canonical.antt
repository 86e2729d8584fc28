-- Circuits in canonical form, and circuits that mean the same.
use Rattle.std.specs.Prelude.{◌≡◌, ◌↔◌, ◌*◌, ◌<◌, ◌≤◌, ℕ, Bool, List, All, length, map}
use Rattle.std.specs.List.{range_with_len}
use Rattle.omega_circuit.specs.Circuit.{CircuitValue, defined_literals}
use Rattle.omega_circuit.specs.Rounds.{IsCircuitRun, IsWordOf, literal_value}
use Rattle.omega_text.specs.NamedWords.{NamedWord}
use Rattle.omega_circuit.specs.declared.gate.Gate.{Gate}
use Rattle.omega_circuit.specs.declared.latch.Latch.{Latch}

-- the literals of so many variables from a first one on
abbrev pub literals_from : (first count : ℕ) → List ℕ
literals_from first count = map (λ variable. 2 * variable) (range_with_len first count)

-- false, inputs, latches and gates have the variables in order; the operands of a gate are below it, the greater first
pub record IsCanonicalCircuit (c : CircuitValue) : Type 0 where
  pub numbered : defined_literals c ≡ literals_from 0 (length (defined_literals c))
  pub operands : All (λ (gate : Gate). (gate.left < gate.literal) × (gate.right ≤ gate.left)) c.gates

-- inputs, latches and outputs of two circuits have the same values, by position, in a round of each
pub record HaveSameValues (c d : CircuitValue) (held other : ℕ → Bool) : Type 0 where
  pub inputs : map (λ literal. literal_value held literal) c.inputs
      ≡ map (λ literal. literal_value other literal) d.inputs
  pub latches : map (λ (latch : Latch). literal_value held latch.literal) c.latches
      ≡ map (λ (latch : Latch). literal_value other latch.literal) d.latches
  pub outputs : map (λ literal. literal_value held literal) c.outputs
      ≡ map (λ literal. literal_value other literal) d.outputs

-- for each run of the first circuit there is one of the second with the same values
abbrev pub RunsAs : (c d : CircuitValue) → Type 0
RunsAs c d = (rounds : ℕ → ℕ → Bool) → IsCircuitRun c rounds
    → (others : ℕ → ℕ → Bool) × IsCircuitRun d others
    × ((i : ℕ) → HaveSameValues c d (rounds i) (others i))

-- two circuits with as many inputs, latches, outputs and gates, the same resets and names, and the same values round by
-- round: so they have the same words
pub record MeanTheSame (c d : CircuitValue) : Type 0 where
  pub inputs : length c.inputs ≡ length d.inputs
  pub resets : map (λ (latch : Latch). latch.reset) c.latches
      ≡ map (λ (latch : Latch). latch.reset) d.latches
  pub outputs : length c.outputs ≡ length d.outputs
  pub gates : length c.gates ≡ length d.gates
  pub symbols : c.symbols ≡ d.symbols
  pub onward : RunsAs c d
  pub back : RunsAs d c
  pub words : (word : NamedWord) → IsWordOf c word ↔ IsWordOf d word
