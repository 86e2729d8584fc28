-- A part of a formula as a formula of its own.
use Rattle.std.specs.Prelude.{◌≡◌, ◌⊎◌, ◌<◌, ℕ, Bool, List, Contains, length, slice_index}
use Rattle.omega_text.specs.Cases.{never, or_memory, or_task}
use Rattle.omega_text.specs.declared.refusal.Refusal.{Refusal}
use Rattle.omega_text.specs.declared.refusal.task.TaskFault.TheVariants.{TooLarge}
use Rattle.omega_ltl_formula.specs.Table.{FormulaTable, NumberedFormula, tree_at, tree_of}
use Rattle.omega_ltl_satisfaction.specs.private.Wanted.{IsMarked}

-- each name of a table is one of another
abbrev pub HasNamesOf : (table other : FormulaTable) → Type 0
HasNamesOf table other = (name : List ℕ) → Contains other.names name → Contains table.names name

-- a formula is that of a node of a table
pub record IsPart (table : FormulaTable) (number : ℕ) (part : NumberedFormula) : Type 0 where
  pub tree : tree_of part ≡ tree_at table number
  pub names : HasNamesOf table part.table

-- `TooLarge`, or want of memory
abbrev pub IsPartRefusal : Refusal → Type 0
IsPartRefusal = or_task (λ fault. fault ≡ TooLarge) (or_memory never)

-- the marked ones of the first nodes of a table have these numbers in a copy
pub record AreCopies (table copy : FormulaTable) (marks : List Bool) (count : ℕ) (numbers : List ℕ)
    : Type 0 where
  pub long : length numbers ≡ count
  pub within : (k : ℕ) → k < count → IsMarked marks k → slice_index numbers k < length copy.nodes
  pub same : (k : ℕ) → k < count → IsMarked marks k
      → tree_at copy (slice_index numbers k) ≡ tree_at table k
  pub names : HasNamesOf table copy

-- names have become others: each was there or is one of `names`
abbrev pub AddsNames : (names old new : List (List ℕ)) → Type 0
AddsNames names old new = (name : List ℕ) → Contains new name → Contains old name ⊎ Contains names name
