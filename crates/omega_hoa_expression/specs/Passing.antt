-- How tokens are passed while an expression is read.
use Rattle.std.specs.Prelude.{◌≡◌, ℕ, List, [], ◌∷◌, ◌++◌, map}
use Rattle.omega_hoa_expression.specs.Symbols.{Rank, ExpressionSymbol, conjunctive}
use Rattle.omega_hoa_expression.specs.Symbols.{disjunctive, expression_symbol_of, unary}
use Rattle.omega_text.specs.Cursor.{next_place}
use Rattle.omega_text.specs.Lexeme.{Lexeme}
use Rattle.omega_text.specs.declared.hoa.kind.HoaKind.{HoaKind}
use Rattle.omega_text.specs.declared.hoa.kind.HoaKind.TheVariants as kind
use Rattle.omega_text.specs.declared.refusal.Refusal.{Refusal}
use Rattle.omega_text.specs.declared.refusal.Refusal.TheVariants.{Text}
use Rattle.omega_text.specs.declared.refusal.text.TextFault.TheVariants.{Syntax}

-- a part of this case may follow `!` or `&`
abbrev pub FitsTight : Rank → Type 0
FitsTight unary = Unit {0}
FitsTight conjunctive = ⊥
FitsTight disjunctive = ⊥

-- a part of this case may follow `|`
abbrev pub FitsOr : Rank → Type 0
FitsOr unary = Unit {0}
FitsOr conjunctive = Unit {0}
FitsOr disjunctive = ⊥

-- the whole tokens are these symbols, and then those that are left
pub record Passed (whole : List (Lexeme HoaKind)) (symbols : List ExpressionSymbol)
    (left : List (Lexeme HoaKind)) : Type 0 where
  pub front : List (Lexeme HoaKind)
  pub split : whole ≡ front ++ left
  pub spells : map expression_symbol_of front ≡ symbols

-- the next token is not of this kind
abbrev pub NextIsNot : HoaKind → List (Lexeme HoaKind) → Type 0
NextIsNot sort [] = Unit {0}
NextIsNot sort (lexeme ∷ rest) = lexeme.kind ≡ sort → ⊥

-- the refusal of a next token that is not of this kind, at its place
pub record IsMissing (sort : HoaKind) (tokens : List (Lexeme HoaKind)) (length : ℕ)
    (refusal : Refusal) : Type 0 where
  pub missing : NextIsNot sort tokens
  pub is : refusal ≡ Text (Syntax (next_place tokens length))

-- a token of this kind is passed
pub record PassesOne (sort : HoaKind) (old new : List (Lexeme HoaKind)) : Type 0 where
  pub lexeme : Lexeme HoaKind
  pub next : old ≡ lexeme ∷ new
  pub is : lexeme.kind ≡ sort

-- a number is passed
pub record PassesNumber (value : ℕ) (old new : List (Lexeme HoaKind)) : Type 0 where
  pub lexeme : Lexeme HoaKind
  pub next : old ≡ lexeme ∷ new
  pub is : lexeme.kind ≡ kind.Int
  pub value_is : lexeme.value ≡ value
