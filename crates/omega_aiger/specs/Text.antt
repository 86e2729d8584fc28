-- Which circuit a text says, and which refusal it meets. Places and the limit count all bytes.
use Rattle.std.specs.Prelude.{◌<◌, ◌≤◌, ℕ, List, length}
use Rattle.omega_aiger.specs.Forms.{circuit_layout}
use Rattle.omega_aiger.specs.Layout.{HasNoNumberAt, IsWrongAt, Spells}
use Rattle.omega_circuit.specs.Circuit.{CircuitValue}
use Rattle.omega_circuit.specs.Faults.{IsCircuitOf, IsFirstFault}
use Rattle.omega_circuit.specs.declared.parts.CircuitParts.{CircuitParts}
use Rattle.omega_text.specs.Cases.{never, or_circuit, or_memory, or_text}
use Rattle.omega_text.specs.Limits.{most_text}
use Rattle.omega_text.specs.declared.refusal.Refusal.{Refusal}
use Rattle.omega_text.specs.declared.refusal.circuit.CircuitFault.{CircuitFault}
use Rattle.omega_text.specs.declared.refusal.text.TextFault.{TextFault}
use Rattle.omega_text.specs.declared.refusal.text.TextFault.TheVariants.{Lex, Number, Syntax, TooLong}

-- the text, perhaps after a first line `REALIZABLE`, says these parts, and is within its limit
pub record IsPartsText (text : List ℕ) (parts : CircuitParts) : Type 0 where
  pub short : length text ≤ most_text
  pub spells : Spells circuit_layout text parts

-- the text says parts that make this circuit
pub record IsCircuitText (text : List ℕ) (c : CircuitValue) : Type 0 where
  pub parts : CircuitParts
  pub says : IsPartsText text parts
  pub makes : IsCircuitOf parts c

-- the fault of bytes: too many of them; or a number or a delta that is due and none; or else the first byte through
-- which no text begins
abbrev pub IsBytesFault : List ℕ → TextFault → Type 0
IsBytesFault text (Lex at) = ⊥
IsBytesFault text (Number at) = (length text ≤ most_text) × HasNoNumberAt circuit_layout text at
IsBytesFault text (Syntax at) = (length text ≤ most_text) × IsWrongAt circuit_layout text at
    × ((p : ℕ) → HasNoNumberAt circuit_layout text p → ⊥)
IsBytesFault text TooLong = most_text < length text

-- the text says parts whose first fault is this
pub record HasCircuitFault (text : List ℕ) (fault : CircuitFault) : Type 0 where
  pub parts : CircuitParts
  pub says : IsPartsText text parts
  pub first : IsFirstFault parts fault

-- the refusal of a text: the fault of its bytes, or else that of its parts
abbrev pub IsCircuitTextRefusal : List ℕ → Refusal → Type 0
IsCircuitTextRefusal text = or_text (IsBytesFault text) (or_circuit (HasCircuitFault text) never)

-- the refusals of a call that reads: that of the text, or `Memory`
abbrev pub IsReadCircuitRefusal : List ℕ → Refusal → Type 0
IsReadCircuitRefusal text = or_memory (IsCircuitTextRefusal text)
