-- The grammar of formulas: how tight operators bind, and to which side (Spot's tl.pdf, precedence and associativity).
use Rattle.std.specs.Prelude.{◌≡◌, ℕ, ◌+◌, ◌≤◌, Bool, false, true, if◌then◌else◌, List, [], ◌∷◌, ◌++◌}
use Rattle.omega_text.specs.Syntax.{Syntax}
use Rattle.omega_ltl_formula.specs.Formula.{FormulaTree, binary, constant as constant_tree, name as name_tree}
use Rattle.omega_ltl_formula.specs.Formula.{unary}
use Rattle.omega_ltl_formula.specs.declared.operators.BinaryOperator.{BinaryOperator}
use Rattle.omega_ltl_formula.specs.declared.operators.BinaryOperator.TheVariants.{And, Iff, Implies, Or}
use Rattle.omega_ltl_formula.specs.declared.operators.BinaryOperator.TheVariants.{Release}
use Rattle.omega_ltl_formula.specs.declared.operators.BinaryOperator.TheVariants.{StrongRelease, Until}
use Rattle.omega_ltl_formula.specs.declared.operators.BinaryOperator.TheVariants.{WeakUntil, Xor}
use Rattle.omega_ltl_formula.specs.declared.operators.UnaryOperator.{UnaryOperator}
use Rattle.omega_ltl_text.specs.Cut.{formula_format}
use Rattle.omega_ltl_text.specs.Symbols.{FormulaSymbol, before, between, closing, constant}
use Rattle.omega_ltl_text.specs.Symbols.{formula_symbol_of, name, opening}
use Rattle.omega_ltl_text.specs.declared.kind.FormulaKind.{FormulaKind}

-- a formula as it is written, with its parentheses
pub data RawFormula : Type 0 where
  raw_constant : Bool → RawFormula
  raw_name : List ℕ → RawFormula
  raw_unary : UnaryOperator → RawFormula → RawFormula
  raw_binary : BinaryOperator → RawFormula → RawFormula → RawFormula
  raw_group : RawFormula → RawFormula

-- how tight an operator binds
abbrev pub level : BinaryOperator → ℕ
level Implies = 0
level Iff = 0
level Or = 1
level Xor = 2
level And = 3
level Until = 4
level Release = 4
level WeakUntil = 4
level StrongRelease = 4

-- whether `a op b op c` is `a op (b op c)`
abbrev pub groups_right : BinaryOperator → Bool
groups_right Implies = true
groups_right Iff = true
groups_right Or = false
groups_right Xor = false
groups_right And = false
groups_right Until = true
groups_right Release = true
groups_right WeakUntil = true
groups_right StrongRelease = true

-- how tight the left operand has to bind
abbrev pub least_left : BinaryOperator → ℕ
least_left op = if groups_right op then level op + 1 else level op

-- how tight the right operand has to bind
abbrev pub least_right : BinaryOperator → ℕ
least_right op = if groups_right op then level op else level op + 1

-- how tight a formula binds: atoms, operators of one operand and parentheses bind tightest
abbrev pub tightness : RawFormula → ℕ
tightness (raw_binary op left right) = level op
tightness other = 5

-- operands that do not bind tight enough stand in parentheses
abbrev pub IsGrouped : RawFormula → Type 0
IsGrouped (raw_constant value) = Unit {0}
IsGrouped (raw_name bytes) = Unit {0}
IsGrouped (raw_unary op part) = IsGrouped part × (5 ≤ tightness part)
IsGrouped (raw_binary op left right) = IsGrouped left × IsGrouped right
    × (least_left op ≤ tightness left) × (least_right op ≤ tightness right)
IsGrouped (raw_group part) = IsGrouped part

-- the symbols of a formula
abbrev pub raw_symbols : RawFormula → List FormulaSymbol
raw_symbols (raw_constant value) = constant value ∷ []
raw_symbols (raw_name bytes) = name bytes ∷ []
raw_symbols (raw_unary op part) = before op ∷ raw_symbols part
raw_symbols (raw_binary op left right) = raw_symbols left ++ between op ∷ raw_symbols right
raw_symbols (raw_group part) = opening ∷ (raw_symbols part ++ closing ∷ [])

-- a formula without its parentheses
abbrev pub bare : RawFormula → FormulaTree
bare (raw_constant value) = constant_tree value
bare (raw_name bytes) = name_tree bytes
bare (raw_unary op part) = unary op (bare part)
bare (raw_binary op left right) = binary op (bare left) (bare right)
bare (raw_group part) = bare part

-- the symbols are those of this formula, however it is written
pub record SpellsFormula (symbols : List FormulaSymbol) (tree : FormulaTree) : Type 0 where
  pub raw : RawFormula
  pub spelled : symbols ≡ raw_symbols raw
  pub grouped : IsGrouped raw
  pub bare_is : bare raw ≡ tree

-- the syntax of formulas
abbrev pub formula_syntax : Syntax FormulaKind FormulaSymbol FormulaTree
formula_syntax = record { format = formula_format; symbol = formula_symbol_of; spells = SpellsFormula }
