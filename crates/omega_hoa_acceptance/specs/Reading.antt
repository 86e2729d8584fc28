-- The grammar of acceptance formulas as they are written: `&` binds tighter than `|`, and equal operators group to the
-- left (HOA v1).
use Rattle.std.specs.Prelude.{◌≡◌, ℕ, Bool, true, false, List, [], ◌∷◌, ◌++◌, map}
use Rattle.omega_hoa_acceptance.specs.Raw.{RawAccTree, atom, conjunction, constant, disjunction, group}
use Rattle.omega_hoa_expression.specs.Symbols.{EndsThere, Rank, ExpressionSymbol, TakesAnd}
use Rattle.omega_hoa_expression.specs.Symbols.{TakesOr, conjunctive, disjunctive, number, sign}
use Rattle.omega_hoa_expression.specs.Symbols.{expression_symbol_of, truth_kind, unary, word}
use Rattle.omega_text.specs.Lexeme.{Lexeme}
use Rattle.omega_text.specs.declared.hoa.kind.HoaKind.{HoaKind}
use Rattle.omega_text.specs.declared.hoa.kind.HoaKind.TheVariants as kind

-- the symbols of a set, with `!` before it or without
abbrev pub mark_symbols : Bool → ℕ → List ExpressionSymbol
mark_symbols true set = sign kind.Not ∷ number set ∷ []
mark_symbols false set = number set ∷ []

-- the symbols of an atom
abbrev pub atom_symbols : List ℕ → Bool → ℕ → List ExpressionSymbol
atom_symbols name negated set = word name ∷ sign kind.OpenParenthesis
    ∷ (mark_symbols negated set ++ sign kind.CloseParenthesis ∷ [])

-- the symbols of an acceptance formula
abbrev pub formula_symbols : RawAccTree → List ExpressionSymbol
formula_symbols (constant value) = sign (truth_kind value) ∷ []
formula_symbols (atom name negated set) = atom_symbols name negated set
formula_symbols (conjunction left right) =
    formula_symbols left ++ sign kind.And ∷ formula_symbols right
formula_symbols (disjunction left right) =
    formula_symbols left ++ sign kind.Or ∷ formula_symbols right
formula_symbols (group part) =
    sign kind.OpenParenthesis ∷ (formula_symbols part ++ sign kind.CloseParenthesis ∷ [])

-- The formula is of this case. An or-expression is an and-expression, or an or-expression, `|` and an and-expression.
-- An and-expression is a unary one, or an and-expression, `&` and a unary one. A unary one is a constant, an atom, or
-- an or-expression in parentheses.
abbrev pub IsAccOf : Rank → RawAccTree → Type 0
IsAccOf rank (constant value) = Unit {0}
IsAccOf rank (atom name negated set) = Unit {0}
IsAccOf rank (conjunction left right) =
    TakesAnd rank × (IsAccOf conjunctive left × IsAccOf unary right)
IsAccOf rank (disjunction left right) =
    TakesOr rank × (IsAccOf disjunctive left × IsAccOf conjunctive right)
IsAccOf rank (group part) = IsAccOf disjunctive part

-- the tokens are a formula's, and then the rest, which does not go on with an operator
pub record ReadsAcc (tokens : List (Lexeme HoaKind)) (tree : RawAccTree)
    (rest : List (Lexeme HoaKind)) : Type 0 where
  pub front : List (Lexeme HoaKind)
  pub split : tokens ≡ front ++ rest
  pub spells : map expression_symbol_of front ≡ formula_symbols tree
  pub is : IsAccOf disjunctive tree
  pub ends : EndsThere rest

-- no front of the tokens is a formula with no operator after it
abbrev pub ReadsNoAcc : List (Lexeme HoaKind) → Type 0
ReadsNoAcc tokens = (tree : RawAccTree) (rest : List (Lexeme HoaKind))
    → ReadsAcc tokens tree rest → ⊥

-- a formula begins with the tokens: they and some more are one
abbrev pub BeginsAcc : List (Lexeme HoaKind) → Type 0
BeginsAcc tokens = (more : List (Lexeme HoaKind)) × (tree : RawAccTree)
    × ReadsAcc (tokens ++ more) tree []

-- of all tokens at most one formula is read, and at most one rest is left
abbrev pub FormulasAreOne : Type 0
FormulasAreOne =
    (tokens : List (Lexeme HoaKind)) (one other : RawAccTree) (rest left : List (Lexeme HoaKind))
    → ReadsAcc tokens one rest → ReadsAcc tokens other left → (one ≡ other) × (rest ≡ left)
