-- What the grammar of automata is written in: tokens with what they say,
-- and the expressions of labels and of acceptance.
use Rattle.std.specs.Prelude.{◌≡◌, ℕ, ◌-◌, List, [], ◌∷◌, length, take}
use Rattle.omega_hoa_acceptance.specs.Raw.{RawAccTree}
use Rattle.omega_hoa_label.specs.Raw.{RawLabelTree}
use Rattle.omega_text.specs.Lexeme.{Lexeme}
use Rattle.omega_text.specs.declared.hoa.kind.HoaKind.{HoaKind}
use Rattle.omega_text.specs.declared.hoa.kind.HoaKind.TheVariants as kind
use Rattle.omega_hoa_acceptance.specs.Reading.{ReadsAcc}
use Rattle.omega_hoa_label_text.specs.Reading.{Reads}
use Rattle.omega_text.specs.Forms.{between_quotes}

-- the tokens of a text
abbrev pub Tokens : Type 0
Tokens = List (Lexeme HoaKind)

-- a symbol of the grammar: an INT, an IDENTIFIER, a HEADERNAME without its colon, an ANAME with its `@`, a STRING
-- without its quotes, any other token, a label-expr or an acc-expr
pub data AutomatonSymbol : Type 0 where
  number : ℕ → AutomatonSymbol
  word : List ℕ → AutomatonSymbol
  header : List ℕ → AutomatonSymbol
  alias : List ℕ → AutomatonSymbol
  text : List ℕ → AutomatonSymbol
  sign : HoaKind → AutomatonSymbol
  label : RawLabelTree → AutomatonSymbol
  formula : RawAccTree → AutomatonSymbol

-- bytes without the last
abbrev pub without_last : List ℕ → List ℕ
without_last bytes = take (length bytes - 1) bytes

-- the token is written as the symbol
abbrev pub Shows : AutomatonSymbol → Lexeme HoaKind → Type 0
Shows (number n) lexeme = (lexeme.kind ≡ kind.Int) × (lexeme.value ≡ n)
Shows (word bytes) lexeme = (lexeme.kind ≡ kind.Identifier) × (lexeme.text ≡ bytes)
Shows (header bytes) lexeme = (lexeme.kind ≡ kind.HeaderName) × (without_last lexeme.text ≡ bytes)
Shows (alias bytes) lexeme = (lexeme.kind ≡ kind.AliasName) × (lexeme.text ≡ bytes)
Shows (text bytes) lexeme = (lexeme.kind ≡ kind.String) × (between_quotes lexeme.text ≡ bytes)
Shows (sign kind) lexeme = lexeme.kind ≡ kind
Shows (label tree) lexeme = ⊥
Shows (formula tree) lexeme = ⊥

-- the first of the tokens is written as the symbol, and the rest is left
pub record IsNext (symbol : AutomatonSymbol) (tokens rest : Tokens) : Type 0 where
  pub lexeme : Lexeme HoaKind
  pub next : tokens ≡ lexeme ∷ rest
  pub shows : Shows symbol lexeme

-- the tokens are the symbol's, and then the rest
abbrev pub ReadsSymbol : AutomatonSymbol → Tokens → Tokens → Type 0
ReadsSymbol (label tree) tokens rest = Reads tokens tree rest
ReadsSymbol (formula tree) tokens rest = ReadsAcc tokens tree rest
ReadsSymbol symbol tokens rest = IsNext symbol tokens rest

-- some tokens are between a front and a back
pub record Splits (Front Back : Tokens → Type 0) : Type 0 where
  pub middle : Tokens
  pub front : Front middle
  pub back : Back middle

-- the tokens spell the symbols, and then comes the rest
abbrev pub ReadsSymbols : Tokens → List AutomatonSymbol → Tokens → Type 0
ReadsSymbols tokens [] rest = tokens ≡ rest
ReadsSymbols tokens (symbol ∷ others) rest =
    Splits (ReadsSymbol symbol tokens) (λ middle. ReadsSymbols middle others rest)
