-- Formulas of linear temporal logic as trees.
use Rattle.std.specs.Prelude.{ℕ, ◌+◌, max, Bool, List, [], ◌∷◌, ◌++◌}
use Rattle.omega_ltl_formula.specs.declared.operators.BinaryOperator.{BinaryOperator}
use Rattle.omega_ltl_formula.specs.declared.operators.UnaryOperator.{UnaryOperator}

-- a formula; a name is the bytes of a proposition's name
pub data FormulaTree : Type 0 where
  constant : Bool → FormulaTree
  name : List ℕ → FormulaTree
  unary : UnaryOperator → FormulaTree → FormulaTree
  binary : BinaryOperator → FormulaTree → FormulaTree → FormulaTree

-- an atom has depth 1, and an operator one more than its deeper operand
abbrev pub formula_depth : FormulaTree → ℕ
formula_depth (constant value) = 1
formula_depth (name bytes) = 1
formula_depth (unary op part) = formula_depth part + 1
formula_depth (binary op left right) = max (formula_depth left) (formula_depth right) + 1

-- the number of atoms and operators
abbrev pub formula_size : FormulaTree → ℕ
formula_size (constant value) = 1
formula_size (name bytes) = 1
formula_size (unary op part) = formula_size part + 1
formula_size (binary op left right) = formula_size left + formula_size right + 1

-- the names from left to right, each as often as it occurs
abbrev pub names_in : FormulaTree → List (List ℕ)
names_in (constant value) = []
names_in (name bytes) = bytes ∷ []
names_in (unary op part) = names_in part
names_in (binary op left right) = names_in left ++ names_in right
