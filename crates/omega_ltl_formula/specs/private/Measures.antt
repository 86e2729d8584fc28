-- The depth and the size of each formula of a table, counted just past the limits.
use Rattle.std.specs.Prelude.{◌≡◌, ◌<◌, ◌+◌, ℕ, List, length, max, min, slice_index_or}
use Rattle.omega_ltl_formula.specs.Formula.{FormulaTree, formula_depth, formula_size}
use Rattle.omega_ltl_formula.specs.Limits.{most_formula_depth, most_formula_nodes}
use Rattle.omega_ltl_formula.specs.Table.{FormulaTable, IsTable, tree_at}
use Rattle.omega_ltl_formula.specs.declared.measures.Measure.{Measure}
use Rattle.omega_ltl_formula.specs.declared.node.FormulaNode.{FormulaNode}
use Rattle.omega_ltl_formula.specs.declared.node.FormulaNode.TheVariants.{Binary, Constant, Name, Unary}

-- a depth and a size as they are counted
abbrev pub counted : (depth size : ℕ) → Measure
counted depth size = record {
  depth = min depth (most_formula_depth + 1);
  size = min size (most_formula_nodes + 1);
}

-- the depth and the size of a formula, as they are counted
abbrev pub measured : FormulaTree → Measure
measured tree = counted (formula_depth tree) (formula_size tree)

-- the measure of this number; that of an atom beyond
abbrev pub measure_at : List Measure → ℕ → Measure
measure_at measures number = slice_index_or measures number (counted 1 1)

-- the measure of a node whose operands have these
abbrev pub measure_over : (ℕ → Measure) → FormulaNode → Measure
measure_over measure (Constant value) = counted 1 1
measure_over measure (Name number) = counted 1 1
measure_over measure (Unary op part) = counted ((measure part).depth + 1) ((measure part).size + 1)
measure_over measure (Binary op left right) = counted
    (max (measure left).depth (measure right).depth + 1) ((measure left).size + (measure right).size + 1)

-- the measures are those of the first nodes of a table
pub record AreMeasures (table : FormulaTable) (count : ℕ) (measures : List Measure) : Type 0 where
  pub long : length measures ≡ count
  pub each : (number : ℕ) → number < count
      → measure_at measures number ≡ measured (tree_at table number)

-- some names and the nodes make a table
abbrev pub HaveTable : List FormulaNode → Type 0
HaveTable nodes = (names : List (List ℕ)) × IsTable (record { names = names; nodes = nodes })

-- the measures are those of the first of some nodes, by whatever names these make a table
abbrev pub AreMeasuresOf : List FormulaNode → ℕ → List Measure → Type 0
AreMeasuresOf nodes count measures = (names : List (List ℕ))
    → IsTable (record { names = names; nodes = nodes })
    → AreMeasures (record { names = names; nodes = nodes }) count measures

-- the measure is that of the node of this number, by whatever names the nodes make a table
abbrev pub IsMeasureOf : List FormulaNode → ℕ → Measure → Type 0
IsMeasureOf nodes number measure = (names : List (List ℕ))
    → IsTable (record { names = names; nodes = nodes })
    → measure ≡ measured (tree_at (record { names = names; nodes = nodes }) number)
