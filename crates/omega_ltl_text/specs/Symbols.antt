-- Tokens as the grammar of formulas sees them.
use Rattle.std.specs.Prelude.{ℕ, Bool, List}
use Rattle.omega_text.specs.Forms.{between_quotes}
use Rattle.omega_text.specs.Lexeme.{Lexeme}
use Rattle.omega_ltl_formula.specs.declared.operators.BinaryOperator.{BinaryOperator}
use Rattle.omega_ltl_formula.specs.declared.operators.UnaryOperator.{UnaryOperator}
use Rattle.omega_ltl_text.specs.declared.kind.FormulaKind.{FormulaKind}
use Rattle.omega_ltl_text.specs.declared.kind.FormulaKind.TheVariants.{Binary, CloseParenthesis, Constant}
use Rattle.omega_ltl_text.specs.declared.kind.FormulaKind.TheVariants.{Name}
use Rattle.omega_ltl_text.specs.declared.kind.FormulaKind.TheVariants.{OpenParenthesis, QuotedName, Unary}

-- an atom, an operator or a parenthesis
pub data FormulaSymbol : Type 0 where
  constant : Bool → FormulaSymbol
  name : List ℕ → FormulaSymbol
  before : UnaryOperator → FormulaSymbol
  between : BinaryOperator → FormulaSymbol
  opening : FormulaSymbol
  closing : FormulaSymbol

-- the symbol of a token of this kind and text
abbrev pub symbol : FormulaKind → List ℕ → FormulaSymbol
symbol (Constant value) text = constant value
symbol Name text = name text
symbol QuotedName text = name (between_quotes text)
symbol (Unary op) text = before op
symbol (Binary op) text = between op
symbol OpenParenthesis text = opening
symbol CloseParenthesis text = closing

-- the symbol of a token
abbrev pub formula_symbol_of : Lexeme FormulaKind → FormulaSymbol
formula_symbol_of lexeme = symbol lexeme.kind lexeme.text
