-- What it means that bytes are a text of a syntax, and which fault they have if they are none.
use Rattle.std.specs.Prelude.{◌≡◌, ◌↔◌, ℕ, ◌<◌, ◌≤◌, ◌⊎◌, List, [], ◌∷◌, ◌++◌, length, map}
use Rattle.omega_text.specs.Cut.{IsCut, IsFault}
use Rattle.omega_text.specs.Format.{TextFormat}
use Rattle.omega_text.specs.Lexeme.{Lexeme}
use Rattle.omega_text.specs.Limits.{most_text}
use Rattle.omega_text.specs.declared.refusal.text.TextFault.{TextFault}
use Rattle.omega_text.specs.declared.refusal.text.TextFault.TheVariants.{Lex, Number, Syntax as SyntaxFault}
use Rattle.omega_text.specs.declared.refusal.text.TextFault.TheVariants.{TooLong}

-- a syntax: how texts are cut, the symbol that a grammar sees in a token, and the grammar,
-- by which symbols spell a raw text
pub record Syntax (Kind Symbol Raw : Type 0) : Type 1 where
  pub format : TextFormat Kind
  pub symbol : Lexeme Kind → Symbol
  pub spells : List Symbol → Raw → Type 0

-- the symbols begin a text: some more of them spell a raw text
abbrev pub Begins : {Kind Symbol Raw : Type 0} → Syntax Kind Symbol Raw → List Symbol → Type 0
Begins {Kind} {Symbol} {Raw} syntax symbols =
    (more : List Symbol) × (raw : Raw) × syntax.spells (symbols ++ more) raw

-- the tokens begin a text
abbrev pub TokensBegin : {Kind Symbol Raw : Type 0} → Syntax Kind Symbol Raw
    → List (Lexeme Kind) → Type 0
TokensBegin syntax lexemes = Begins syntax (map syntax.symbol lexemes)

-- the tokens spell this raw text
abbrev pub TokensSpell : {Kind Symbol Raw : Type 0} → Syntax Kind Symbol Raw
    → List (Lexeme Kind) → Raw → Type 0
TokensSpell syntax lexemes raw = syntax.spells (map syntax.symbol lexemes) raw

-- the tokens are a text
abbrev pub TokensComplete : {Kind Symbol Raw : Type 0} → Syntax Kind Symbol Raw
    → List (Lexeme Kind) → Type 0
TokensComplete {Kind} {Symbol} {Raw} syntax lexemes = (raw : Raw) × TokensSpell syntax lexemes raw

-- the bytes can be cut into tokens that spell this raw text
pub record IsTextOf {Kind Symbol Raw : Type 0} (syntax : Syntax Kind Symbol Raw) (source : List ℕ)
    (raw : Raw) : Type 0 where
  pub lexemes : List (Lexeme Kind)
  pub cut : IsCut syntax.format source lexemes
  pub text : TokensSpell syntax lexemes raw

-- the first token through which no text begins is at this place
pub record IsWrongAt {Kind : Type 0} (begins : List (Lexeme Kind) → Type 0)
    (lexemes : List (Lexeme Kind)) (place : ℕ) : Type 0 where
  pub front : List (Lexeme Kind)
  pub wrong : Lexeme Kind
  pub rest : List (Lexeme Kind)
  pub split : lexemes ≡ front ++ wrong ∷ rest
  pub begins_before : begins front
  pub ends_there : begins (front ++ wrong ∷ []) → ⊥
  pub there : place ≡ wrong.span.start

-- the tokens begin a text, and are none
pub record IsUnfinished {Kind : Type 0} (begins completes : List (Lexeme Kind) → Type 0)
    (lexemes : List (Lexeme Kind)) : Type 0 where
  pub begun : begins lexemes
  pub partial : completes lexemes → ⊥

-- the place of a syntax fault: that of the first wrong token, or the length of a text that ends too early
pub record IsMisplaced {Kind : Type 0} (format : TextFormat Kind)
    (begins completes : List (Lexeme Kind) → Type 0) (source : List ℕ) (place : ℕ) : Type 0 where
  pub lexemes : List (Lexeme Kind)
  pub cut : IsCut format source lexemes
  pub fault_there : IsWrongAt begins lexemes place
      ⊎ (IsUnfinished begins completes lexemes × (place ≡ length source))

-- the fault of bytes, if it is known which tokens begin a text and which are one: the length first, then tokens, then
-- syntax
abbrev pub IsFaultBy : {Kind : Type 0} → TextFormat Kind
    → (begins completes : List (Lexeme Kind) → Type 0) → List ℕ → TextFault → Type 0
IsFaultBy format begins completes source (Lex at) =
    (length source ≤ most_text) × IsFault format source (Lex at)
IsFaultBy format begins completes source (Number at) =
    (length source ≤ most_text) × IsFault format source (Number at)
IsFaultBy format begins completes source (SyntaxFault at) =
    (length source ≤ most_text) × IsMisplaced format begins completes source at
IsFaultBy format begins completes source TooLong = most_text < length source

-- the fault of bytes that are no text of a syntax
abbrev pub IsTextFault : {Kind Symbol Raw : Type 0} → Syntax Kind Symbol Raw
    → List ℕ → TextFault → Type 0
IsTextFault syntax = IsFaultBy syntax.format (TokensBegin syntax) (TokensComplete syntax)

-- a text has at most one fault
abbrev pub TextFaultsAreOne : {Kind Symbol Raw : Type 0} → Syntax Kind Symbol Raw → Type 0
TextFaultsAreOne syntax = (source : List ℕ) (one other : TextFault) → IsTextFault syntax source one
    → IsTextFault syntax source other → one ≡ other

-- a text within the limit that spells something has no fault
abbrev pub TextsHaveNoFault : {Kind Symbol Raw : Type 0} → Syntax Kind Symbol Raw → Type 0
TextsHaveNoFault {Kind} {Symbol} {Raw} syntax = (source : List ℕ) (raw : Raw) (fault : TextFault)
    → length source ≤ most_text → IsTextOf syntax source raw → IsTextFault syntax source fault → ⊥

-- the place of a syntax fault parts the tokens: a text begins through each of those before it, and through no other
abbrev pub SyntaxFaultsAreFirst : {Kind Symbol Raw : Type 0} → Syntax Kind Symbol Raw → Type 0
SyntaxFaultsAreFirst {Kind} syntax =
    (source : List ℕ) (place : ℕ) (front rest : List (Lexeme Kind)) (token : Lexeme Kind)
    → IsTextFault syntax source (SyntaxFault place)
    → IsCut syntax.format source (front ++ token ∷ rest)
    → TokensBegin syntax (front ++ token ∷ []) ↔ (token.span.start < place)

-- there is a text, and of all symbols it can be said whether they begin one and whether they are one
pub record IsDecidable {Kind Symbol Raw : Type 0} (syntax : Syntax Kind Symbol Raw) : Type 0 where
  pub some_text : Begins syntax []
  pub begins_or_not : (symbols : List Symbol) → Begins syntax symbols ⊎ (Begins syntax symbols → ⊥)
  pub spells_or_not : (symbols : List Symbol)
      → ((raw : Raw) × syntax.spells symbols raw) ⊎ ((raw : Raw) → syntax.spells symbols raw → ⊥)

-- each text within the limit spells something, or the bytes have a fault
abbrev pub TextsAreReadOrFaulty : {Kind Symbol Raw : Type 0} → Syntax Kind Symbol Raw → Type 0
TextsAreReadOrFaulty {Kind} {Symbol} {Raw} syntax = (source : List ℕ)
    → ((length source ≤ most_text) × ((raw : Raw) × IsTextOf syntax source raw))
    ⊎ ((fault : TextFault) × IsTextFault syntax source fault)
