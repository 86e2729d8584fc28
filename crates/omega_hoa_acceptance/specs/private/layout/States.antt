-- How far an acceptance formula has been gone through, symbol by symbol.
use Rattle.std.specs.Prelude.{◌≡◌, ℕ, zero, suc, List, [], ◌∷◌, ◌++◌, map, Bool}
use Rattle.omega_hoa_acceptance.specs.Reading.{mark_symbols}
use Rattle.omega_hoa_expression.specs.Symbols.{ExpressionSymbol, number, sign, expression_symbol_of, word}
use Rattle.omega_hoa_expression.specs.Passing.{Passed}
use Rattle.omega_text.specs.Lexeme.{Lexeme}
use Rattle.omega_text.specs.declared.hoa.kind.HoaKind.{HoaKind}
use Rattle.omega_text.specs.declared.hoa.kind.HoaKind.TheVariants as kind

-- with this many parentheses open: a part is wanted, or the name of an atom was passed, then its `(`, `!` and set, or a
-- part was passed; or all has been gone through, or it cannot be
pub data NameState : Type 0 where
  wanted : ℕ → NameState
  named : ℕ → NameState
  entered : ℕ → NameState
  barred : ℕ → NameState
  numbered : ℕ → NameState
  had : ℕ → NameState
  ended : NameState
  failed : NameState

-- the state after a symbol
abbrev pub go : NameState → ExpressionSymbol → NameState
go (wanted count) (word text) = named count
go (wanted count) (sign kind.True) = had count
go (wanted count) (sign kind.False) = had count
go (wanted count) (sign kind.OpenParenthesis) = wanted (suc count)
go (wanted count) other = failed
go (named count) (sign kind.OpenParenthesis) = entered count
go (named count) other = failed
go (entered count) (sign kind.Not) = barred count
go (entered count) (number set) = numbered count
go (entered count) other = failed
go (barred count) (number set) = numbered count
go (barred count) other = failed
go (numbered count) (sign kind.CloseParenthesis) = had count
go (numbered count) other = failed
go (had count) (sign kind.And) = wanted count
go (had count) (sign kind.Or) = wanted count
go (had zero) other = ended
go (had (suc count)) (sign kind.CloseParenthesis) = had count
go (had (suc count)) other = failed
go ended other = ended
go failed other = failed

-- the state after symbols
abbrev pub run : NameState → List ExpressionSymbol → NameState
run state [] = state
run state (symbol ∷ symbols) = run (go state symbol) symbols

-- a formula has been gone through
abbrev pub IsThrough : NameState → Type 0
IsThrough (had zero) = Unit {0}
IsThrough ended = Unit {0}
IsThrough other = ⊥

-- no formula goes on with these tokens from this state, however many parentheses are open
abbrev pub IsStuck : (ℕ → NameState) → List (Lexeme HoaKind) → Type 0
IsStuck state tokens =
    (count : ℕ) → IsThrough (run (state count) (map expression_symbol_of tokens)) → ⊥

-- the symbols of an atom's set, with its parentheses
abbrev pub set_symbols : Bool → ℕ → List ExpressionSymbol
set_symbols negated set =
    sign kind.OpenParenthesis ∷ (mark_symbols negated set ++ sign kind.CloseParenthesis ∷ [])

-- the set of an atom is passed, with its parentheses
abbrev pub PassesSet : Bool → ℕ → (old new : List (Lexeme HoaKind)) → Type 0
PassesSet negated set old new = Passed old (set_symbols negated set) new

-- after these symbols the tokens begin an atom's set, with its parentheses: they and some more are the rest of one
abbrev pub BeginsSet : List ExpressionSymbol → List (Lexeme HoaKind) → Type 0
BeginsSet passed tokens = (more : List (Lexeme HoaKind)) × (negated : Bool) × (set : ℕ)
    × (passed ++ map expression_symbol_of (tokens ++ more) ≡ set_symbols negated set)
