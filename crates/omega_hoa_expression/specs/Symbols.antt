-- What a grammar of the Hanoi format sees of a token, and what the expressions of labels and of acceptance formulas
-- have in common (HOA v1).
use Rattle.std.specs.Prelude.{ℕ, Bool, true, false, List, [], ◌∷◌}
use Rattle.omega_text.specs.Lexeme.{Lexeme}
use Rattle.omega_text.specs.declared.hoa.kind.HoaKind.{HoaKind}
use Rattle.omega_text.specs.declared.hoa.kind.HoaKind.TheVariants as kind

-- What a grammar sees of a token. Of a number this is its value. Of an alias name (with its `@`), an identifier, a
-- header name (with its colon) and a string (with its quotes) it is the bytes. Of the others it is the kind.
pub data ExpressionSymbol : Type 0 where
  number : ℕ → ExpressionSymbol
  name : List ℕ → ExpressionSymbol
  word : List ℕ → ExpressionSymbol
  header : List ℕ → ExpressionSymbol
  quoted : List ℕ → ExpressionSymbol
  sign : HoaKind → ExpressionSymbol

-- the symbol of a token of this kind, value and text
abbrev pub seen_as : HoaKind → ℕ → List ℕ → ExpressionSymbol
seen_as kind.Int value text = number value
seen_as kind.AliasName value text = name text
seen_as kind.Identifier value text = word text
seen_as kind.HeaderName value text = header text
seen_as kind.String value text = quoted text
seen_as other value text = sign other

-- the symbol of a token
abbrev pub expression_symbol_of : Lexeme HoaKind → ExpressionSymbol
expression_symbol_of lexeme = seen_as lexeme.kind lexeme.value lexeme.text

-- the kind of a constant's token
abbrev pub truth_kind : Bool → HoaKind
truth_kind true = kind.True
truth_kind false = kind.False

-- the three nested cases of the grammar
pub data Rank : Type 0 where
  unary : Rank
  conjunctive : Rank
  disjunctive : Rank

-- an `&` may be outermost
abbrev pub TakesAnd : Rank → Type 0
TakesAnd unary = ⊥
TakesAnd conjunctive = Unit {0}
TakesAnd disjunctive = Unit {0}

-- an `|` may be outermost
abbrev pub TakesOr : Rank → Type 0
TakesOr unary = ⊥
TakesOr conjunctive = ⊥
TakesOr disjunctive = Unit {0}

-- neither `&` nor `|`
abbrev pub IsNoOperator : HoaKind → Type 0
IsNoOperator kind.And = ⊥
IsNoOperator kind.Or = ⊥
IsNoOperator other = Unit {0}

-- the tokens begin with neither `&` nor `|`
abbrev pub EndsThere : List (Lexeme HoaKind) → Type 0
EndsThere [] = Unit {0}
EndsThere (lexeme ∷ rest) = IsNoOperator lexeme.kind
