-- How tables grow, and which formulas are refused.
use Rattle.std.specs.Prelude.{◌≡◌, ◌<◌, ◌≤◌, ◌+◌, ℕ, ◌⊎◌, List, [], length}
use Rattle.std.specs.Str.{bytes_eq}
use Rattle.indexmap.specs.IndexSet.{insert_all, insert_key}
use Rattle.omega_text.specs.Cases.{never, or_automaton, or_memory, or_task}
use Rattle.omega_text.specs.declared.refusal.Refusal.{Refusal}
use Rattle.omega_text.specs.declared.refusal.automaton.AutomatonFault.TheVariants.{TooDeep}
use Rattle.omega_text.specs.declared.refusal.task.TaskFault.TheVariants.{TooLarge}
use Rattle.omega_ltl_formula.specs.Formula.{FormulaTree, formula_depth, formula_size, names_in}
use Rattle.omega_ltl_formula.specs.Limits.{most_formula_depth, most_formula_names, most_formula_nodes}
use Rattle.omega_ltl_formula.specs.Table.{FormulaTable, NumberedFormula, tree_at, tree_of}

-- the table without nodes
abbrev pub empty_table : FormulaTable
empty_table = record { names = []; nodes = [] }

-- names, and this one after them if it is not among them
abbrev pub with_name : List (List ℕ) → List ℕ → List (List ℕ)
with_name names name = insert_key bytes_eq names name

-- the names of a formula, each once, in the order of their first occurrences
abbrev pub names_of : FormulaTree → List (List ℕ)
names_of tree = insert_all bytes_eq [] (names_in tree)

-- a table has become another: the formula is there under this number, and the others stay
pub record Adds (old new : FormulaTable) (tree : FormulaTree) (number : ℕ) : Type 0 where
  pub within : number < length new.nodes
  pub there : tree_at new number ≡ tree
  pub kept : (k : ℕ) → k < length old.nodes → tree_at new k ≡ tree_at old k
  pub longer : length old.nodes ≤ length new.nodes
  pub at_most_one : length new.nodes ≤ length old.nodes + 1

-- a formula is too large: its atoms and operators, its nodes or its names are too many
abbrev pub IsLarge : NumberedFormula → Type 0
IsLarge formula = (most_formula_nodes < formula_size (tree_of formula))
    ⊎ ((most_formula_nodes < length formula.table.nodes)
    ⊎ (most_formula_names < length formula.table.names))

-- the refusals of a formula: its depth, or else its size, or want of memory
abbrev pub IsFormulaRefusal : NumberedFormula → Refusal → Type 0
IsFormulaRefusal formula =
    or_automaton (λ fault. (fault ≡ TooDeep) × (most_formula_depth < formula_depth (tree_of formula)))
    (or_task (λ fault. (fault ≡ TooLarge)
    × (formula_depth (tree_of formula) ≤ most_formula_depth) × IsLarge formula) (or_memory never))
