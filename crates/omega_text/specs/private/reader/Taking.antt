-- How far a text was read, token by token.
use Rattle.std.specs.Prelude.{ℕ, List}
use Rattle.omega_text.specs.Cases.{never, or_memory, or_text}
use Rattle.omega_text.specs.Cut.{Cuts, IsCut, IsFault}
use Rattle.omega_text.specs.Format.{TextFormat}
use Rattle.omega_text.specs.Lexeme.{Lexeme}
use Rattle.omega_text.specs.Syntax.{IsWrongAt}
use Rattle.omega_text.specs.declared.refusal.Refusal.{Refusal}
use Rattle.omega_text.specs.declared.refusal.text.TextFault.{TextFault}
use Rattle.omega_text.specs.declared.refusal.text.TextFault.TheVariants.{Lex, Number, Syntax, TooLong}

-- the text was read up to a place, and its tokens were taken
pub record IsReadTo {Kind : Type 0} (format : TextFormat Kind) (taken : List (Lexeme Kind) → Type 0)
    (source : List ℕ) (place : ℕ) : Type 0 where
  pub lexemes : List (Lexeme Kind)
  pub cuts : Cuts format source 0 lexemes place
  pub all_taken : taken lexemes

-- the whole text was read, and its tokens were taken
pub record IsReadWhole {Kind : Type 0} (format : TextFormat Kind)
    (taken : List (Lexeme Kind) → Type 0) (source : List ℕ) : Type 0 where
  pub lexemes : List (Lexeme Kind)
  pub cut : IsCut format source lexemes
  pub all_taken : taken lexemes

-- the whole text can be cut, and the first wrong token is at this place
pub record HasWrongAt {Kind : Type 0} (format : TextFormat Kind)
    (begins : List (Lexeme Kind) → Type 0) (source : List ℕ) (place : ℕ) : Type 0 where
  pub lexemes : List (Lexeme Kind)
  pub cut : IsCut format source lexemes
  pub wrong : IsWrongAt begins lexemes place

-- the fault of a text whose tokens are not all taken
abbrev pub IsTokenFault : {Kind : Type 0} → TextFormat Kind → (List (Lexeme Kind) → Type 0)
    → List ℕ → TextFault → Type 0
IsTokenFault format begins source (Lex at) = IsFault format source (Lex at)
IsTokenFault format begins source (Number at) = IsFault format source (Number at)
IsTokenFault format begins source (Syntax at) = HasWrongAt format begins source at
IsTokenFault format begins source TooLong = ⊥

-- the refusal of such a text, or memory
abbrev pub IsTokenRefusal : {Kind : Type 0} → TextFormat Kind → (List (Lexeme Kind) → Type 0)
    → List ℕ → Refusal → Type 0
IsTokenRefusal format begins source = or_text (IsTokenFault format begins source) (or_memory never)
