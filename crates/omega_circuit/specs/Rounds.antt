-- What circuits do, round by round. The order of gates is no part of it.
use Rattle.std.specs.Prelude.{◌≡◌, ◌==◌, ◌<◌, ◌+◌, ◌&&◌, ℕ, Bool, false, not, List, [], ◌∷◌, ◌++◌}
use Rattle.std.specs.Prelude.{All, decimal, length, map, slice_index, if◌then◌else◌}
use Rattle.omega_text.specs.NamedWords.{NamedWord}
use Rattle.omega_circuit.specs.Circuit.{CircuitValue, defined_variables, is_even, variable_of}
use Rattle.omega_circuit.specs.Symbols.{kind_letter}
use Rattle.omega_circuit.specs.declared.gate.Gate.{Gate}
use Rattle.omega_circuit.specs.declared.latch.Latch.{Latch}
use Rattle.omega_circuit.specs.declared.symbol.Symbol.{Symbol}
use Rattle.omega_circuit.specs.declared.symbol.SymbolKind.{SymbolKind}
use Rattle.omega_circuit.specs.declared.symbol.SymbolKind.TheVariants.{Input, Output}

-- the value of a literal, if the variables have these
abbrev pub literal_value : (ℕ → Bool) → ℕ → Bool
literal_value held literal =
    if is_even literal then held (variable_of literal) else not (held (variable_of literal))

-- the conjunction that a gate is
abbrev pub gate_value : (ℕ → Bool) → Gate → Bool
gate_value held gate = literal_value held gate.left && literal_value held gate.right

-- variables may have these values in one round
pub record IsRound (c : CircuitValue) (held : ℕ → Bool) : Type 0 where
  pub constant : held 0 ≡ false
  pub gates : All (λ (gate : Gate). held (variable_of gate.literal) ≡ gate_value held gate) c.gates

-- the inputs have these values in a round
abbrev pub HasInputs : CircuitValue → (ℕ → Bool) → (ℕ → Bool) → Type 0
HasInputs c held letter =
    (k : ℕ) → k < length c.inputs → held (variable_of (slice_index c.inputs k)) ≡ letter k

-- the latches have these values in a round
abbrev pub HasLatches : CircuitValue → (ℕ → Bool) → (Latch → Bool) → Type 0
HasLatches c held state = All (λ (latch : Latch). held (variable_of latch.literal) ≡ state latch) c.latches

-- a run: the latches begin with their resets, and take their next values from round to round
pub record IsCircuitRun (c : CircuitValue) (rounds : ℕ → ℕ → Bool) : Type 0 where
  pub each : (i : ℕ) → IsRound c (rounds i)
  pub starts : HasLatches c (rounds 0) (λ latch. latch.reset == 1)
  pub goes_on : (i : ℕ) → HasLatches c (rounds (i + 1)) (λ latch. literal_value (rounds i) latch.next)

-- the inputs of a run are these letters
abbrev pub ReadsLetters : CircuitValue → (ℕ → ℕ → Bool) → (ℕ → ℕ → Bool) → Type 0
ReadsLetters c rounds letters = (i : ℕ) → HasInputs c (rounds i) (letters i)

-- the name that symbols give to a position of a kind: that of the first, or its letter and the position
abbrev pub name_of : SymbolKind → ℕ → List Symbol → List ℕ
name_of kind position [] = kind_letter kind ∷ decimal position
name_of kind position (symbol ∷ symbols) =
    if kind_letter symbol.kind == kind_letter kind && symbol.position == position
    then symbol.name else name_of kind position symbols

-- a word of a circuit has in each round of a run the values of inputs and outputs under their names; other names are
-- free
pub record IsWordOf (c : CircuitValue) (word : NamedWord) : Type 0 where
  pub rounds : ℕ → ℕ → Bool
  pub run : IsCircuitRun c rounds
  pub inputs : (i k : ℕ) → k < length c.inputs
      → word i (name_of Input k c.symbols) ≡ literal_value (rounds i) (slice_index c.inputs k)
  pub outputs : (i k : ℕ) → k < length c.outputs
      → word i (name_of Output k c.symbols) ≡ literal_value (rounds i) (slice_index c.outputs k)

-- the values of all that a circuit defines: of false, and of inputs, latches and gates in order
abbrev pub table_of : CircuitValue → (ℕ → Bool) → List Bool
table_of c held = map held (defined_variables c)

-- these are the values of what a circuit defines in a round with these inputs and latches
pub record AreValues (c : CircuitValue) (inputs latches values : List Bool) : Type 0 where
  pub held : ℕ → Bool
  pub round : IsRound c held
  pub by_variable : values ≡ table_of c held
  pub given : values ≡ false ∷ (inputs ++ (latches ++ map (gate_value held) c.gates))

-- the values of the latches in the first round
abbrev pub first_latches : CircuitValue → List Bool
first_latches c = map (λ (latch : Latch). latch.reset == 1) c.latches

-- these are the values of the latches in the round after one with these values
abbrev pub AreNextLatches : CircuitValue → (values latches : List Bool) → Type 0
AreNextLatches c values latches = (held : ℕ → Bool) → values ≡ table_of c held
    → latches ≡ map (λ (latch : Latch). literal_value held latch.next) c.latches

-- these are the values of the outputs in a round with these values
abbrev pub AreOutputs : CircuitValue → (values outputs : List Bool) → Type 0
AreOutputs c values outputs = (held : ℕ → Bool) → values ≡ table_of c held
    → outputs ≡ map (λ literal. literal_value held literal) c.outputs
