-- Circuits of and-gates and latches as values (the AIGER format: Biere, Heljanko and Wieringa 2011). The variable 0 is
-- false. The literal 2 v is the variable v, and 2 v + 1 its negation.
use Rattle.std.specs.Prelude.{◌==◌, ◌<◌, ◌≤◌, ◌+◌, ◌/◌, ◌%◌, ℕ, Bool, List, [], ◌∷◌, ◌++◌}
use Rattle.std.specs.Prelude.{All, length, map, nat_eq, if◌then◌else◌}
use Rattle.std.specs.List.{AllPass, Contains, IsDistinct}
use Rattle.omega_circuit.specs.Limits.{most_variables}
use Rattle.omega_circuit.specs.Symbols.{kind_letter}
use Rattle.omega_circuit.specs.declared.gate.Gate.{Gate}
use Rattle.omega_circuit.specs.declared.latch.Latch.{Latch}
use Rattle.omega_circuit.specs.declared.symbol.Symbol.{Symbol}
use Rattle.omega_circuit.specs.declared.symbol.SymbolKind.{SymbolKind}
use Rattle.omega_circuit.specs.declared.symbol.SymbolKind.TheVariants.{Input, Latch as OfLatch, Output}

-- a circuit as contracts see it
pub record CircuitValue : Type 0 where
  pub inputs : List ℕ
  pub latches : List Latch
  pub outputs : List ℕ
  pub gates : List Gate
  pub symbols : List Symbol

-- the variable of a literal
abbrev pub variable_of : ℕ → ℕ
variable_of literal = literal / 2

-- no negation
abbrev pub is_even : ℕ → Bool
is_even literal = literal % 2 == 0

-- the literals that are defined: false, and those of inputs, latches and gates
abbrev pub defined_literals : CircuitValue → List ℕ
defined_literals c = 0 ∷ (c.inputs ++ (map (λ (latch : Latch). latch.literal) c.latches
    ++ map (λ (gate : Gate). gate.literal) c.gates))

-- the variables that are defined: 0, and those of inputs, latches and gates
abbrev pub defined_variables : CircuitValue → List ℕ
defined_variables c = map variable_of (defined_literals c)

-- no definition is a negation, and no variable is defined twice
pub record AreDefinitions (literals : List ℕ) : Type 0 where
  pub even : AllPass is_even literals
  pub apart : IsDistinct nat_eq (map variable_of literals)

-- the variable of a literal is defined
abbrev pub IsDefined : CircuitValue → ℕ → Type 0
IsDefined c literal = Contains (defined_variables c) (variable_of literal)

-- the variables of all literals that are used are defined
pub record IsComplete (c : CircuitValue) : Type 0 where
  pub nexts : All (λ (latch : Latch). IsDefined c latch.next) c.latches
  pub outputs : All (λ literal. IsDefined c literal) c.outputs
  pub gates : All (λ (gate : Gate). IsDefined c gate.left × IsDefined c gate.right) c.gates

-- no gate uses itself, through gates: some numbers of variables rise from the operands of each gate to the gate
pub record IsAcyclic (gates : List Gate) : Type 0 where
  pub number : ℕ → ℕ
  pub rises : All (λ (gate : Gate). (number (variable_of gate.left) < number (variable_of gate.literal))
      × (number (variable_of gate.right) < number (variable_of gate.literal))) gates

-- each latch is 0 or 1 in the first round
abbrev pub AreResets : List Latch → Type 0
AreResets latches = All (λ (latch : Latch). latch.reset ≤ 1) latches

-- the positions that symbols of a kind name
abbrev pub positions_of : SymbolKind → List Symbol → List ℕ
positions_of kind [] = []
positions_of kind (symbol ∷ symbols) = if kind_letter symbol.kind == kind_letter kind
    then symbol.position ∷ positions_of kind symbols else positions_of kind symbols

-- symbols of a kind name positions below this number, and none twice
pub record AreNamed (kind : SymbolKind) (count : ℕ) (symbols : List Symbol) : Type 0 where
  pub within : All (λ position. position < count) (positions_of kind symbols)
  pub apart : IsDistinct nat_eq (positions_of kind symbols)

-- the symbols name inputs, latches and outputs that there are, none twice
pub record HasNames (c : CircuitValue) : Type 0 where
  pub inputs : AreNamed Input (length c.inputs) c.symbols
  pub latches : AreNamed OfLatch (length c.latches) c.symbols
  pub outputs : AreNamed Output (length c.outputs) c.symbols

-- a circuit: each variable that is used has one definition, which doesn't lead back to it
pub record IsCircuit (c : CircuitValue) : Type 0 where
  pub few : length c.inputs + length c.latches + length c.gates ≤ most_variables
  pub small : All (λ variable. variable ≤ most_variables) (defined_variables c)
  pub definitions : AreDefinitions (defined_literals c)
  pub complete : IsComplete c
  pub acyclic : IsAcyclic c.gates
  pub resets : AreResets c.latches
  pub names : HasNames c
