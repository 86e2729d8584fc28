-- Laws of circuits.
use Rattle.std.specs.Prelude.{◌≡◌, ◌<◌, ◌+◌, ℕ, Bool, false, List, length, slice_index, slice_index_or}
use Rattle.std.specs.List.{Contains}
use Rattle.omega_circuit.specs.Circuit.{CircuitValue, IsCircuit, defined_variables}
use Rattle.omega_circuit.specs.Faults.{IsCircuitOf, IsFirstFault}
use Rattle.omega_circuit.specs.Rounds.{AreNextLatches, AreOutputs, AreValues, IsCircuitRun, IsWordOf}
use Rattle.omega_circuit.specs.Rounds.{ReadsLetters, first_latches, literal_value, name_of, table_of}
use Rattle.omega_text.specs.NamedWords.{NamedWord}
use Rattle.omega_text.specs.declared.refusal.circuit.CircuitFault.{CircuitFault}
use Rattle.omega_circuit.specs.declared.parts.CircuitParts.{CircuitParts}
use Rattle.omega_circuit.specs.declared.symbol.SymbolKind.TheVariants.{Input, Output}

-- for these letters there is a run, and two runs agree on all that is defined
pub record RunsOnce (c : CircuitValue) (letters : ℕ → ℕ → Bool) : Type 0 where
  pub rounds : ℕ → ℕ → Bool
  pub run : IsCircuitRun c rounds
  pub reads : ReadsLetters c rounds letters
  pub only : (others : ℕ → ℕ → Bool) → IsCircuitRun c others → ReadsLetters c others letters
      → (i variable : ℕ) → Contains (defined_variables c) variable → others i variable ≡ rounds i variable

-- a circuit has one run for each sequence of letters
abbrev pub CircuitsRun : Type 0
CircuitsRun = (c : CircuitValue) → IsCircuit c → (letters : ℕ → ℕ → Bool) → RunsOnce c letters

-- parts have at most one first fault, and none if they make a circuit; what they make is a circuit
pub record PartsAreJudged (parts : CircuitParts) : Type 0 where
  pub one : (fault other : CircuitFault) → IsFirstFault parts fault → IsFirstFault parts other → fault ≡ other
  pub apart : (fault : CircuitFault) (c : CircuitValue) → IsFirstFault parts fault → IsCircuitOf parts c → ⊥
  pub circuit : (c : CircuitValue) → IsCircuitOf parts c → IsCircuit c

-- values made round by round, as calls make them: each round from its inputs and its latches, which are the first ones
-- or those after the round before
pub record AreMadeInTurn (c : CircuitValue) (inputs latches values outputs : ℕ → List Bool)
    : Type 0 where
  pub letters : (i : ℕ) → length (inputs i) ≡ length c.inputs
  pub first : latches 0 ≡ first_latches c
  pub rounds : (i : ℕ) → AreValues c (inputs i) (latches i) (values i)
  pub nexts : (i : ℕ) → AreNextLatches c (values i) (latches (i + 1))
  pub ends : (i : ℕ) → AreOutputs c (values i) (outputs i)

-- these are the values of a run with these inputs, and of its outputs
pub record HasRun (c : CircuitValue) (inputs values outputs : ℕ → List Bool) : Type 0 where
  pub rounds : ℕ → ℕ → Bool
  pub run : IsCircuitRun c rounds
  pub reads : ReadsLetters c rounds (λ i k. slice_index_or (inputs i) k false)
  pub same : (i : ℕ) → values i ≡ table_of c (rounds i)
  pub ends : (i k : ℕ) → k < length c.outputs
      → slice_index_or (outputs i) k false ≡ literal_value (rounds i) (slice_index c.outputs k)

-- a word has these inputs and outputs under their names
pub record IsWordWith (c : CircuitValue) (inputs outputs : ℕ → List Bool) (word : NamedWord) : Type 0 where
  pub letters : (i k : ℕ) → k < length c.inputs
      → word i (name_of Input k c.symbols) ≡ slice_index_or (inputs i) k false
  pub ends : (i k : ℕ) → k < length c.outputs
      → word i (name_of Output k c.symbols) ≡ slice_index_or (outputs i) k false

-- values made round by round are those of a run, and words with its inputs and outputs are words of the circuit
pub record AreRun (c : CircuitValue) (inputs values outputs : ℕ → List Bool) : Type 0 where
  pub has : HasRun c inputs values outputs
  pub words : (word : NamedWord) → IsWordWith c inputs outputs word → IsWordOf c word

abbrev pub ValuesAreRuns : Type 0
ValuesAreRuns = (c : CircuitValue) (inputs latches values outputs : ℕ → List Bool) → IsCircuit c
    → AreMadeInTurn c inputs latches values outputs → AreRun c inputs values outputs
