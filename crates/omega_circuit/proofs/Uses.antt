-- Which literals are used, and that their variables are defined.
use Rattle.std.proofs.Common.{◌≡◌, ℕ, ◌/◌, ◌<◌, List, All, length, arith, sym, subst}
use Rattle.std.specs.List.{Contains}
use Rattle.std.proofs.lemmas.List.{get_or-map, length-map}
use Rattle.omega_circuit.specs.Circuit.{defined_variables}
use Rattle.omega_circuit.specs.Faults.{AllOfProperties, AreUsesDefined, value_of}
use Rattle.omega_circuit.specs.private.Numbers.{next_literals}
use Rattle.omega_circuit.specs.private.Wires.{AreReads}
use Rattle.omega_circuit.specs.declared.wiring.Reads.{Reads}
use Rattle.omega_circuit.proofs.Numbering.{all_there}
use Rattle.omega_circuit.specs.declared.gate.Gate.{Gate}
use Rattle.omega_circuit.specs.declared.latch.Latch.{Latch}
use Rattle.omega_circuit.specs.declared.parts.CircuitParts.{CircuitParts}

-- what holds of next literals holds of latches, and the other way round
all_of_latches : (P : ℕ → Type 0) (latches : List Latch) → All P (next_literals latches) → All (λ (latch : Latch). P latch.next) latches
all_of_latches P latches all k d within =
    subst P (get_or-map (λ (latch : Latch). latch.next) latches k d 0 within) (all k 0 (let e = length-map latches (λ (latch : Latch). latch.next) in omega (arith, within, e)))

all_of_literals : (P : ℕ → Type 0) (latches : List Latch) → All (λ (latch : Latch). P latch.next) latches → All P (next_literals latches)
all_of_literals P latches all k d within =
    let none : Latch = record { literal = 0; next = 0; reset = 0 } in
    let small : k < length latches = let e = length-map latches (λ (latch : Latch). latch.next) in omega (arith, within, e) in
    subst P (sym (get_or-map (λ (latch : Latch). latch.next) latches k none d small)) (all k none small)

-- the uses by their kinds, over the variables in a set
module _ (parts : CircuitParts) (keys : List ℕ) (same : keys ≡ defined_variables (value_of parts)) where
  abbrev IsIn : List ℕ → ℕ → Type 0
  IsIn variables literal = Contains variables (literal / 2)

  abbrev NextsIn : List ℕ → Type 0
  NextsIn variables = All (λ (latch : Latch). IsIn variables latch.next) parts.latches

  abbrev OutputsIn : List ℕ → Type 0
  OutputsIn variables = All (λ literal. IsIn variables literal) parts.outputs

  abbrev PropertiesIn : List ℕ → Type 0
  PropertiesIn variables = AllOfProperties (λ literal. IsIn variables literal) parts.properties

  abbrev GatesIn : List ℕ → Type 0
  GatesIn variables = All (λ (gate : Gate). IsIn variables gate.left × IsIn variables gate.right) parts.gates

  pub uses_nexts : AreUsesDefined parts → NextsIn keys
  uses_nexts uses = subst NextsIn (sym same) uses.circuit.nexts

  pub uses_outputs : AreUsesDefined parts → OutputsIn keys
  uses_outputs uses = subst OutputsIn (sym same) uses.circuit.outputs

  pub uses_properties : AreUsesDefined parts → PropertiesIn keys
  uses_properties uses = subst PropertiesIn (sym same) uses.properties

  pub uses_gates : AreUsesDefined parts → GatesIn keys
  uses_gates uses = subst GatesIn (sym same) uses.circuit.gates

  -- the next literals of uses that are defined are in the set
  pub uses_literals : AreUsesDefined parts → All (IsIn keys) (next_literals parts.latches)
  uses_literals uses = all_of_literals (IsIn keys) parts.latches (uses_nexts uses)

  -- the uses of numbered literals are defined, and those of properties and gates may be
  pub uses_of_reads : (reads : Reads) → AreReads (value_of parts) reads → PropertiesIn keys → GatesIn keys → AreUsesDefined parts
  uses_of_reads reads are properties gates = record {
    circuit = record {
      nexts = all_of_latches (IsIn (defined_variables (value_of parts))) parts.latches
          (all_there (defined_variables (value_of parts)) (next_literals parts.latches) reads.nexts.items are.nexts);
      outputs = all_there (defined_variables (value_of parts)) parts.outputs reads.outputs.items are.outputs;
      gates = subst GatesIn same gates;
    };
    properties = subst PropertiesIn same properties;
  }
