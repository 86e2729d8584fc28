-- The text of a circuit in the ASCII form, as it is written here.
use Rattle.std.specs.Prelude.{◌≡◌, ◌≤◌, ◌+◌, ◌/◌, ◌==◌, ℕ, List, [], ◌∷◌, ◌++◌, All, codes, decimal}
use Rattle.std.specs.Prelude.{length, map, max}
use Rattle.std.specs.Prelude.{if◌then◌else◌}
use Rattle.std.specs.List.{Contains, flat_map}
use Rattle.omega_aiger.specs.Text.{IsCircuitText}
use Rattle.omega_circuit.specs.Circuit.{CircuitValue, IsCircuit, positions_of}
use Rattle.omega_circuit.specs.Symbols.{kind_letter}
use Rattle.omega_circuit.specs.declared.gate.Gate.{Gate}
use Rattle.omega_circuit.specs.declared.latch.Latch.{Latch}
use Rattle.omega_circuit.specs.declared.symbol.Symbol.{Symbol}
use Rattle.omega_circuit.specs.declared.symbol.SymbolKind.TheVariants.{Bad, Constraint, Fairness, Justice}
use Rattle.omega_text.specs.Limits.{most_number, most_text}

-- a count of the first line
abbrev pub count_text : ℕ → List ℕ
count_text n = 32 ∷ decimal n

-- the line of a number
abbrev pub number_text : ℕ → List ℕ
number_text n = decimal n ++ 10 ∷ []

-- the end of a latch's line: a reset is written if it is not 0
abbrev pub reset_text : ℕ → List ℕ
reset_text reset = if reset == 0 then 10 ∷ [] else 32 ∷ (decimal reset ++ 10 ∷ [])

-- the line of a latch
abbrev pub latch_text : Latch → List ℕ
latch_text latch = decimal latch.literal ++ 32 ∷ (decimal latch.next ++ reset_text latch.reset)

-- the line of a gate
abbrev pub gate_text : Gate → List ℕ
gate_text gate = decimal gate.literal ++ 32 ∷ (decimal gate.left ++ 32 ∷ (decimal gate.right ++ 10 ∷ []))

-- the line of a symbol
abbrev pub symbol_text : Symbol → List ℕ
symbol_text symbol = kind_letter symbol.kind ∷ (decimal symbol.position ++ 32 ∷ (symbol.name ++ 10 ∷ []))

-- the greatest of numbers, or 0
abbrev pub greatest : List ℕ → ℕ
greatest [] = 0
greatest (n ∷ numbers) = max n (greatest numbers)

-- the greatest literal that is defined
abbrev pub greatest_literal : CircuitValue → ℕ
greatest_literal c = max (greatest c.inputs)
    (max (greatest (map (λ (latch : Latch). latch.literal) c.latches))
    (greatest (map (λ (gate : Gate). gate.literal) c.gates)))

-- the greatest variable, or the number of definitions if that is greater
abbrev pub most_variable_of : CircuitValue → ℕ
most_variable_of c = max (length c.inputs + length c.latches + length c.gates) (greatest_literal c / 2)

-- the lines after the first: everything in its own order
abbrev pub lines_text : CircuitValue → List ℕ
lines_text c = flat_map number_text c.inputs ++ (flat_map latch_text c.latches
    ++ (flat_map number_text c.outputs ++ (flat_map gate_text c.gates ++ flat_map symbol_text c.symbols)))

-- the text of a circuit
unfoldable pub ascii_text : CircuitValue → List ℕ
ascii_text c = codes "aag" ++ (count_text (most_variable_of c) ++ (count_text (length c.inputs)
    ++ (count_text (length c.latches) ++ (count_text (length c.outputs) ++ (count_text (length c.gates)
    ++ 10 ∷ lines_text c)))))

-- a circuit whose text says it: no name has a line feed, no symbol is of a property, and numbers and the text are
-- within their limits
pub record IsWritableAs (text : CircuitValue → List ℕ) (c : CircuitValue) : Type 0 where
  pub circuit : IsCircuit c
  pub names : All (λ (symbol : Symbol). Contains symbol.name 10 → ⊥) c.symbols
  pub positions : All (λ (symbol : Symbol). symbol.position ≤ most_number) c.symbols
  pub bad : positions_of Bad c.symbols ≡ []
  pub constraints : positions_of Constraint c.symbols ≡ []
  pub justice : positions_of Justice c.symbols ≡ []
  pub fairness : positions_of Fairness c.symbols ≡ []
  pub outputs : length c.outputs ≤ most_number
  pub short : length (text c) ≤ most_text

-- the same of the ASCII form
abbrev pub IsWritable : CircuitValue → Type 0
IsWritable c = IsWritableAs ascii_text c

-- the text that is written for a circuit says it
abbrev pub WrittenCircuitsAreRead : Type 0
WrittenCircuitsAreRead = (c : CircuitValue) → IsWritable c → IsCircuitText (ascii_text c) c

-- a circuit that some text says can be written, if its text is within the limit
abbrev pub ReadCircuitsAreWritable : Type 0
ReadCircuitsAreWritable = (text : List ℕ) (c : CircuitValue) → IsCircuitText text c
    → length (ascii_text c) ≤ most_text → IsWritable c
