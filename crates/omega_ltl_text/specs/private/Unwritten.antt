-- What is still to be written of a formula: its text, and how it gets less.
use Rattle.std.specs.Prelude.{◌≡◌, ◌<◌, ◌+◌, ◌*◌, ℕ, List, [], ◌∷◌, ◌++◌, codes, length}
use Rattle.std.specs.List.{AllByRecursion}
use Rattle.omega_ltl_formula.specs.Formula.{formula_size}
use Rattle.omega_ltl_formula.specs.Table.{FormulaTable, tree_at}
use Rattle.omega_ltl_text.specs.Written.{binary_text, enclosed, formula_text, is_binary}
use Rattle.omega_ltl_text.specs.declared.unwritten.Unwritten.{Unwritten}
use Rattle.omega_ltl_text.specs.declared.unwritten.Unwritten.TheVariants.{Between, Closing, Node, Operand}

-- the text of what is to be written
abbrev pub unwritten_text : FormulaTable → Unwritten → List ℕ
unwritten_text table (Node number) = formula_text (tree_at table number)
unwritten_text table (Operand number) =
    enclosed (is_binary (tree_at table number)) (formula_text (tree_at table number))
unwritten_text table (Between op) = codes " " ++ (binary_text op ++ codes " ")
unwritten_text table Closing = codes ")"

-- the text of all that is to be written: the last comes first
abbrev pub unwritten_texts : FormulaTable → List Unwritten → List ℕ
unwritten_texts table [] = []
unwritten_texts table (first ∷ rest) = unwritten_texts table rest ++ unwritten_text table first

-- it is a node of a table with this number of nodes, or no node
abbrev pub IsNodeAmong : ℕ → Unwritten → Type 0
IsNodeAmong count (Node number) = number < count
IsNodeAmong count (Operand number) = number < count
IsNodeAmong count (Between op) = Unit {0}
IsNodeAmong count Closing = Unit {0}

-- how much is to be done
abbrev pub work : FormulaTable → Unwritten → ℕ
work table (Node number) = 6 * formula_size (tree_at table number)
work table (Operand number) = 6 * formula_size (tree_at table number) + 2
work table (Between op) = 1
work table Closing = 1

-- the same of all
abbrev pub works : FormulaTable → List Unwritten → ℕ
works table [] = 0
works table (first ∷ rest) = work table first + works table rest

-- the front of what comes next was written, and its rest is before all others
pub record Writes (table : FormulaTable) (next : Unwritten) (others left : List Unwritten)
    (before after : List ℕ) : Type 0 where
  pub text : after ++ unwritten_texts table left
      ≡ before ++ (unwritten_text table next ++ unwritten_texts table others)
  pub nodes : AllByRecursion (IsNodeAmong (length table.nodes)) left
  pub less : works table left < work table next + works table others
