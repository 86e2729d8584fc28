-- A reader of formulas: its table, the numbers of nodes that wait in it, and the state of the grammar that they are.
use Rattle.std.specs.Prelude.{◌≡◌, ◌<◌, ◌≤◌, ◌+◌, ◌⊎◌, ℕ, nat_le, Bool, false, true, List, [], ◌∷◌, ◌++◌}
use Rattle.std.specs.Prelude.{Option, None, Some, length, map, option_map, reverse}
use Rattle.std.specs.List.{AllByRecursion}
use Rattle.omega_text.specs.Cases.{never, or_automaton, or_memory, or_task}
use Rattle.omega_text.specs.Lexeme.{Lexeme}
use Rattle.omega_text.specs.declared.refusal.Refusal.{Refusal}
use Rattle.omega_text.specs.declared.refusal.automaton.AutomatonFault.TheVariants.{TooDeep}
use Rattle.omega_text.specs.declared.refusal.task.TaskFault.TheVariants.{TooLarge}
use Rattle.omega_ltl_formula.specs.Building.{with_name}
use Rattle.omega_ltl_formula.specs.Formula.{FormulaTree, binary, formula_depth, formula_size, unary}
use Rattle.omega_ltl_formula.specs.Limits.{most_formula_depth, most_formula_names, most_formula_nodes}
use Rattle.omega_ltl_formula.specs.Table.{FormulaTable, tree_at}
use Rattle.omega_ltl_text.specs.Grammar.{level}
use Rattle.omega_ltl_text.specs.Symbols.{FormulaSymbol, before, between, closing, constant}
use Rattle.omega_ltl_text.specs.Symbols.{formula_symbol_of, name, opening}
use Rattle.omega_ltl_text.specs.declared.kind.FormulaKind.{FormulaKind}
use Rattle.omega_ltl_text.specs.declared.pending.Pending.{Pending}
use Rattle.omega_ltl_text.specs.declared.pending.Pending.TheVariants.{Binary, Parenthesis, Unary}
use Rattle.omega_ltl_text.specs.private.Reading.{Frame, ReadState, infixed, initial, opened, prefixed}
use Rattle.omega_ltl_text.specs.private.Reading.{reading, reduced, reduced_some, run, step}

-- a table, what is pending, the last last, and the node that is complete, if an operand was read last
pub record ReaderState : Type 0 where
  pub table : FormulaTable
  pub pending : List Pending
  pub current : Option ℕ

-- the reader of these parts
abbrev pub reader_of : FormulaTable → List Pending → Option ℕ → ReaderState
reader_of table pending current = record { table = table; pending = pending; current = current }

-- what waits, with its left operand
abbrev pub frame_of : FormulaTable → Pending → Frame
frame_of table Parenthesis = opened
frame_of table (Unary op) = prefixed op
frame_of table (Binary op left) = infixed (tree_at table left) op

-- all that waits, the last first
abbrev pub frames_of : FormulaTable → List Pending → List Frame
frames_of table pending = map (frame_of table) (reverse pending)

-- the state that a reader has come to
abbrev pub state_of : ReaderState → ReadState
state_of reader = reading (frames_of reader.table reader.pending)
    (option_map (tree_at reader.table) reader.current)

-- whether what waits takes a formula before an operator to whose left one has to bind so tight
abbrev pub binds : ℕ → Pending → Bool
binds least Parenthesis = false
binds least (Unary op) = true
binds least (Binary op left) = nat_le least (level op)

-- the formula that what waits makes of its last operand
abbrev pub joined : FormulaTable → Pending → FormulaTree → FormulaTree
joined table Parenthesis tree = tree
joined table (Unary op) tree = unary op tree
joined table (Binary op left) tree = binary op (tree_at table left) tree

-- a left operand is a node of a table with this number of nodes
abbrev pub IsAmong : ℕ → Pending → Type 0
IsAmong count Parenthesis = Unit {0}
IsAmong count (Unary op) = Unit {0}
IsAmong count (Binary op left) = left < count

-- so is a complete operand, if there is one
abbrev pub IsSomeAmong : ℕ → Option ℕ → Type 0
IsSomeAmong count None = Unit {0}
IsSomeAmong count (Some number) = number < count

-- the atoms and operators of what waits
abbrev pub size_waiting : FormulaTable → Pending → ℕ
size_waiting table Parenthesis = 0
size_waiting table (Unary op) = 0
size_waiting table (Binary op left) = formula_size (tree_at table left)

-- the atoms and operators of all that waits
abbrev pub sizes_waiting : FormulaTable → List Pending → ℕ
sizes_waiting table [] = 0
sizes_waiting table (next ∷ pending) = size_waiting table next + sizes_waiting table pending

-- those of a complete operand
abbrev pub size_complete : FormulaTable → Option ℕ → ℕ
size_complete table None = 0
size_complete table (Some number) = formula_size (tree_at table number)

-- all numbers are those of nodes
pub record IsReading (reader : ReaderState) : Type 0 where
  pub waiting : AllByRecursion (IsAmong (length reader.table.nodes)) reader.pending
  pub complete : IsSomeAmong (length reader.table.nodes) reader.current

-- a reader has no more nodes than its formulas have atoms and operators
abbrev pub HasFewNodes : ReaderState → Type 0
HasFewNodes reader = length reader.table.nodes
    ≤ sizes_waiting reader.table reader.pending + size_complete reader.table reader.current

-- the name that a symbol is, if it is one
abbrev pub name_in : FormulaSymbol → Option (List ℕ)
name_in (constant value) = None
name_in (name bytes) = Some bytes
name_in (before op) = None
name_in (between op) = None
name_in opening = None
name_in closing = None

-- names, and this one, if any, after them if it is not among them
abbrev pub with_some : List (List ℕ) → Option (List ℕ) → List (List ℕ)
with_some names None = names
with_some names (Some bytes) = with_name names bytes

-- the names of symbols after others, each once
abbrev pub names_after : List (List ℕ) → List FormulaSymbol → List (List ℕ)
names_after names [] = names
names_after names (symbol ∷ symbols) = names_after (with_some names (name_in symbol)) symbols

-- a symbol was taken and the next reader is kept, or it was refused and there is no next state
abbrev pub Goes : Bool → ReaderState → FormulaSymbol → ReaderState → Type 0
Goes true reader symbol next = (step (state_of reader) symbol ≡ Some (state_of next))
    × (next.table.names ≡ with_some reader.table.names (name_in symbol))
    × (HasFewNodes reader → HasFewNodes next)
Goes false reader symbol next = step (state_of reader) symbol ≡ None

-- a new reader that takes these tokens becomes `reader`
pub record HasBecome (start : ReaderState) (lexemes : List (Lexeme FormulaKind))
    (reader : ReaderState) : Type 0 where
  pub runs : run initial (map formula_symbol_of lexemes) ≡ Some (state_of reader)
  pub names : reader.table.names ≡ names_after [] (map formula_symbol_of lexemes)
  pub few : HasFewNodes reader

-- the last of a list
abbrev pub EndsWith : {X : Type 0} → List X → X → Type 0
EndsWith {X} items last = (rest : List X) × (items ≡ rest ++ last ∷ [])

-- nothing is pending, or the last does not bind
abbrev pub IsStopped : {X : Type 0} → (X → Bool) → List X → Type 0
IsStopped {X} binds pending = (pending ≡ [])
    ⊎ ((last : X) × EndsWith pending last × (binds last ≡ false))

-- a reader comes to the same as another table and its pending, once the operators that bind so tight have taken their
-- last operands
pub record ComesTo (least : ℕ) (old : ReaderState) (table : FormulaTable) (pending : List Pending)
    (number : ℕ) : Type 0 where
  pub reads : IsReading (reader_of table pending (Some number))
  pub same : reduced_some least (state_of old).frames (state_of old).current
      ≡ Some (reduced least (frames_of table pending) (tree_at table number))
  pub names : table.names ≡ old.table.names
  pub few : HasFewNodes old → HasFewNodes (reader_of table pending (Some number))
  pub longer : length old.table.nodes ≤ length table.nodes

-- the last operators of a reader that bind so tight have taken its complete operand
pub record Reduces (least : ℕ) (old : ReaderState) (table : FormulaTable) (pending : List Pending)
    (number : ℕ) : Type 0 where
  pub reads : IsReading (reader_of table pending (Some number))
  pub same : reduced_some least (state_of old).frames (state_of old).current
      ≡ Some (frames_of table pending, tree_at table number)
  pub names : table.names ≡ old.table.names
  pub few : HasFewNodes old → HasFewNodes (reader_of table pending (Some number))

-- whether it is an open parenthesis that waits
abbrev pub is_parenthesis : Pending → Bool
is_parenthesis Parenthesis = true
is_parenthesis (Unary op) = false
is_parenthesis (Binary op left) = false

-- what waits has no left operand
abbrev pub IsOuter : Pending → Type 0
IsOuter Parenthesis = Unit {0}
IsOuter (Unary op) = Unit {0}
IsOuter (Binary op left) = ⊥

-- the symbol by which it comes
abbrev pub outer_symbol : Pending → FormulaSymbol
outer_symbol Parenthesis = opening
outer_symbol (Unary op) = before op
outer_symbol (Binary op left) = between op

-- the refusals of a formula with this number of names: its depth, or else its size, or want of memory
abbrev pub IsRefusedFormula : FormulaTree → ℕ → Refusal → Type 0
IsRefusedFormula tree names =
    or_automaton (λ fault. (fault ≡ TooDeep) × (most_formula_depth < formula_depth tree))
    (or_task (λ fault. (fault ≡ TooLarge) × (formula_depth tree ≤ most_formula_depth)
    × ((most_formula_nodes < formula_size tree) ⊎ (most_formula_names < names))) (or_memory never))
