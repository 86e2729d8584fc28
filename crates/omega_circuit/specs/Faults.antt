-- Which parts make a circuit, and which fault others have.
use Rattle.std.specs.Prelude.{◌≡◌, ◌<◌, ◌≤◌, ◌+◌, ◌*◌, ℕ, true, [], All, length}
use Rattle.omega_circuit.specs.Circuit.{AreDefinitions, AreNamed, AreResets, CircuitValue, HasNames}
use Rattle.omega_circuit.specs.Circuit.{IsAcyclic, IsComplete, IsDefined, defined_literals}
use Rattle.omega_circuit.specs.Limits.{most_variables}
use Rattle.omega_text.specs.Cases.{never, or_circuit, or_memory}
use Rattle.omega_text.specs.Refusal.{circuit_number}
use Rattle.omega_text.specs.declared.refusal.Refusal.{Refusal}
use Rattle.omega_text.specs.declared.refusal.circuit.CircuitFault.{CircuitFault}
use Rattle.omega_text.specs.declared.refusal.circuit.CircuitFault.TheVariants as faults
use Rattle.omega_circuit.specs.declared.gate.Gate.{Gate}
use Rattle.omega_circuit.specs.declared.latch.Latch.{Latch}
use Rattle.omega_circuit.specs.declared.parts.CircuitParts.{CircuitParts}
use Rattle.omega_circuit.specs.declared.properties.Properties.{Properties}
use Rattle.omega_circuit.specs.declared.symbol.SymbolKind.TheVariants.{Bad, Constraint, Fairness, Justice}

-- the circuit that parts make if they have no fault
abbrev pub value_of : CircuitParts → CircuitValue
value_of parts = record {
  inputs = parts.inputs;
  latches = parts.latches;
  outputs = parts.outputs;
  gates = parts.gates;
  symbols = parts.symbols;
}

-- how many variables are defined, without 0
abbrev pub defined_count : CircuitParts → ℕ
defined_count parts = length parts.inputs + length parts.latches + length parts.gates

-- the definitions have room below the greatest variable, which is within the limit
pub record HasRoom (parts : CircuitParts) : Type 0 where
  pub enough : defined_count parts ≤ parts.most_variable
  pub dense : parts.is_dense ≡ true → parts.most_variable ≡ defined_count parts
  pub few : parts.most_variable ≤ most_variables

-- this holds of each literal of a property
pub record AllOfProperties (P : ℕ → Type 0) (properties : Properties) : Type 0 where
  pub bad : All P properties.bad
  pub constraints : All P properties.constraints
  pub justice : All P properties.justice
  pub fairness : All P properties.fairness

-- the literal is of a variable up to the greatest
abbrev pub IsInRange : CircuitParts → ℕ → Type 0
IsInRange parts literal = literal ≤ 2 * parts.most_variable + 1

-- all literals are of variables up to the greatest
pub record AreInRange (parts : CircuitParts) : Type 0 where
  pub inputs : All (IsInRange parts) parts.inputs
  pub latches : All (λ (latch : Latch). IsInRange parts latch.literal
      × IsInRange parts latch.next) parts.latches
  pub outputs : All (IsInRange parts) parts.outputs
  pub properties : AllOfProperties (IsInRange parts) parts.properties
  pub gates : All (λ (gate : Gate). IsInRange parts gate.literal
      × IsInRange parts gate.left × IsInRange parts gate.right) parts.gates

-- the variables of all literals that are used are defined, those of properties too
pub record AreUsesDefined (parts : CircuitParts) : Type 0 where
  pub circuit : IsComplete (value_of parts)
  pub properties : AllOfProperties (IsDefined (value_of parts)) parts.properties

-- the symbols name what there is, none of it twice
pub record AreSymbols (parts : CircuitParts) : Type 0 where
  pub circuit : HasNames (value_of parts)
  pub bad : AreNamed Bad (length parts.properties.bad) parts.symbols
  pub constraints : AreNamed Constraint (length parts.properties.constraints) parts.symbols
  pub justice : AreNamed Justice (length parts.properties.justice_sizes) parts.symbols
  pub fairness : AreNamed Fairness (length parts.properties.fairness) parts.symbols

-- there are no properties
pub record HasNoProperties (properties : Properties) : Type 0 where
  pub bad : properties.bad ≡ []
  pub constraints : properties.constraints ≡ []
  pub justice : properties.justice_sizes ≡ []
  pub fairness : properties.fairness ≡ []

-- what parts without the fault have; which names another format can write is no matter of parts
abbrev pub IsWithout : CircuitFault → CircuitParts → Type 0
IsWithout faults.Variables parts = HasRoom parts
IsWithout faults.LiteralRange parts = AreInRange parts
IsWithout faults.Defined parts = AreDefinitions (defined_literals (value_of parts))
IsWithout faults.Undefined parts = AreUsesDefined parts
IsWithout faults.Cycle parts = IsAcyclic parts.gates
IsWithout faults.Reset parts = AreResets parts.latches
IsWithout faults.Symbol parts = AreSymbols parts
IsWithout faults.Properties parts = HasNoProperties parts.properties
IsWithout faults.Name parts = Unit {0}

-- parts have the fault, and none with a lesser number
pub record IsFirstFault (parts : CircuitParts) (fault : CircuitFault) : Type 0 where
  pub before : (other : CircuitFault) → circuit_number other < circuit_number fault
      → IsWithout other parts
  pub has : IsWithout fault parts → ⊥

-- parts make this circuit: they have no fault
pub record IsCircuitOf (parts : CircuitParts) (c : CircuitValue) : Type 0 where
  pub faultless : (fault : CircuitFault) → IsWithout fault parts
  pub same : c ≡ value_of parts

-- the refusals of a call that makes a circuit of parts: their first fault, or `Memory`
abbrev pub IsCircuitRefusal : CircuitParts → Refusal → Type 0
IsCircuitRefusal parts = or_memory (or_circuit (IsFirstFault parts) never)
