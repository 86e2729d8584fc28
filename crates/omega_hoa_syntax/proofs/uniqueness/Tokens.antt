-- A token is written by one symbol.
use Rattle.std.proofs.Common.{◌≡◌, List, ◌∷◌, sym, ap, ◌∙◌, subst}
use Rattle.omega_hoa_syntax.specs.Symbols.{ReadsSymbol, IsNext, Shows, ReadsSymbols, Splits, AutomatonSymbol, Tokens, alias, formula, header, label, number, sign, text, without_last, word}
use Rattle.omega_text.specs.Forms.{between_quotes}
use Rattle.omega_text.specs.Lexeme.{Lexeme}
use Rattle.omega_text.specs.declared.hoa.kind.HoaKind.{HoaKind}
use Rattle.omega_text.specs.declared.hoa.kind.HoaKind.TheVariants as kind

-- what follows on either side begins at one place
pub record Both (others more : List AutomatonSymbol) (rest left : Tokens) : Type 0 where
  pub middle : Tokens
  pub one : ReadsSymbols middle others rest
  pub other : ReadsSymbols middle more left

-- the symbol that a token of this kind is written by
abbrev pub symbol_as : HoaKind → Lexeme HoaKind → AutomatonSymbol
symbol_as kind.Int lexeme = number lexeme.value
symbol_as kind.Identifier lexeme = word lexeme.text
symbol_as kind.HeaderName lexeme = header (without_last lexeme.text)
symbol_as kind.AliasName lexeme = alias lexeme.text
symbol_as kind.String lexeme = text (between_quotes lexeme.text)
symbol_as other lexeme = sign other

-- the symbol is that of a token
abbrev pub IsToken : AutomatonSymbol → Type 0
IsToken (sign kind) = (lexeme : Lexeme HoaKind) → symbol_as kind lexeme ≡ sign kind
IsToken (label tree) = ⊥
IsToken (formula tree) = ⊥
IsToken other = Unit {0}

-- a token is written by no other symbol
symbol_is : (symbol : AutomatonSymbol) (lexeme : Lexeme HoaKind) → IsToken symbol → Shows symbol lexeme → symbol ≡ symbol_as lexeme.kind lexeme
symbol_is (number n) lexeme token shows = ap number (sym shows.1) ∙ ap (λ kind. symbol_as kind lexeme) (sym shows.0)
symbol_is (word bytes) lexeme token shows = ap word (sym shows.1) ∙ ap (λ kind. symbol_as kind lexeme) (sym shows.0)
symbol_is (header bytes) lexeme token shows = ap header (sym shows.1) ∙ ap (λ kind. symbol_as kind lexeme) (sym shows.0)
symbol_is (alias bytes) lexeme token shows = ap alias (sym shows.1) ∙ ap (λ kind. symbol_as kind lexeme) (sym shows.0)
symbol_is (text bytes) lexeme token shows = ap text (sym shows.1) ∙ ap (λ kind. symbol_as kind lexeme) (sym shows.0)
symbol_is (sign kind) lexeme token shows = sym (token lexeme) ∙ ap (λ kind. symbol_as kind lexeme) (sym shows)
symbol_is (label tree) lexeme token shows = absurd token
symbol_is (formula tree) lexeme token shows = absurd token

token_next : (symbol : AutomatonSymbol) (tokens rest : Tokens) → IsToken symbol → ReadsSymbol symbol tokens rest → IsNext symbol tokens rest
token_next (label tree) tokens rest token begins = absurd token
token_next (formula tree) tokens rest token begins = absurd token
token_next (number n) tokens rest token begins = begins
token_next (word bytes) tokens rest token begins = begins
token_next (header bytes) tokens rest token begins = begins
token_next (alias bytes) tokens rest token begins = begins
token_next (text bytes) tokens rest token begins = begins
token_next (sign kind) tokens rest token begins = begins

-- tokens begin with one token
pub token_one : (one other : AutomatonSymbol) (tokens : Tokens) (others more : List AutomatonSymbol) (rest left : Tokens) → IsToken one → IsToken other
    → ReadsSymbols tokens (one ∷ others) rest → ReadsSymbols tokens (other ∷ more) left → (one ≡ other) × Both others more rest left
token_one one other tokens others more rest left first second spells reads =
    let next = token_next one tokens spells.middle first spells.front in
    let found = token_next other tokens reads.middle second reads.front in
    let e : next.lexeme ∷ spells.middle ≡ found.lexeme ∷ reads.middle = sym next.next ∙ found.next in
    let same : next.lexeme ≡ found.lexeme = cc in
    let there : spells.middle ≡ reads.middle = cc in (
      symbol_is one next.lexeme first next.shows ∙ (ap (λ lexeme. symbol_as lexeme.kind lexeme) same ∙ sym (symbol_is other found.lexeme second found.shows)),
      record { middle = spells.middle; one = spells.back; other = subst (λ middle. ReadsSymbols middle more left) (sym there) reads.back },
    )

-- what follows a sign follows at one place
pub sign_passed : (kind : HoaKind) (tokens : Tokens) (others more : List AutomatonSymbol) (rest left : Tokens) → IsToken (sign kind)
    → ReadsSymbols tokens (sign kind ∷ others) rest → ReadsSymbols tokens (sign kind ∷ more) left → Both others more rest left
sign_passed kind tokens others more rest left token spells reads = (token_one (sign kind) (sign kind) tokens others more rest left token token spells reads).1

-- an expression that tokens begin with at most one of
pub expression_one : {X : Type 0} (R : Tokens → X → Tokens → Type 0)
    → ((tokens : Tokens) (one other : X) (rest left : Tokens) → R tokens one rest → R tokens other left → (one ≡ other) × (rest ≡ left))
    → (one other : X) (tokens : Tokens) (others more : List AutomatonSymbol) (rest left : Tokens)
    → Splits (λ middle. R tokens one middle) (λ middle. ReadsSymbols middle others rest) → Splits (λ middle. R tokens other middle) (λ middle. ReadsSymbols middle more left)
    → (one ≡ other) × Both others more rest left
expression_one R law one other tokens others more rest left spells reads =
    let same = law tokens one other spells.middle reads.middle spells.front reads.front in
    (same.0, record { middle = spells.middle; one = spells.back; other = subst (λ middle. ReadsSymbols middle more left) (sym same.1) reads.back })
