-- What is known of labels before they are judged two by two.
use Rattle.std.specs.Prelude.{◌≡◌, ℕ, ◌<◌, IfSome, IsTrue, List, length, slice_get, Some}
use Rattle.omega_hoa_expression.specs.Limits.{most_depth}
use Rattle.omega_hoa_label.specs.Label.{LabelTree, label_depth, label_size}
use Rattle.omega_hoa_satisfiable.specs.Literals.{AreLiteralsOf}
use Rattle.omega_hoa_satisfiable.specs.Tables.{IsTruthTable, IsWideTable}
use Rattle.omega_hoa_edges.specs.declared.summary.LabelSummary.{LabelSummary}

-- what is known of a label: its size, perhaps that it is less deep than the limit, its literals or a truth table
pub record IsSummaryOf (tree : LabelTree) (summary : LabelSummary) : Type 0 where
  pub sized : summary.size ≡ label_size tree
  pub shallow : IsTrue summary.is_shallow → label_depth tree < most_depth
  pub literals : IfSome summary.literals (AreLiteralsOf tree)
  pub table : IfSome summary.table (IsTruthTable tree)
  pub wide : IfSome summary.wide (IsWideTable tree)

-- the first labels have these summaries
pub record AreSummariesOf (labels : List LabelTree) (summaries : List LabelSummary) (count : ℕ) : Type 0 where
  pub counted : length summaries ≡ count
  pub known : (index : ℕ) (tree : LabelTree) (summary : LabelSummary) → slice_get labels index ≡ Some tree
      → slice_get summaries index ≡ Some summary → IsSummaryOf tree summary
