-- A format of texts: how a text goes on from each place.
use Rattle.std.specs.Prelude.{◌≡◌, ℕ, ◌<◌, ◌≤◌, ◌⊎◌, List, length}
use Rattle.omega_text.specs.Lexeme.{Lexeme}
use Rattle.omega_text.specs.declared.refusal.text.TextFault.{TextFault}
use Rattle.omega_text.specs.declared.refusal.text.TextFault.TheVariants.{Lex, Number, Syntax, TooLong}
use Rattle.omega_text.specs.declared.token.Span.{Span}

-- how texts of a format go on from a place: with this token, with nothing more, or with this fault
pub record TextFormat (Kind : Type 0) : Type 1 where
  pub follows : List ℕ → ℕ → Lexeme Kind → Type 0
  pub ends : List ℕ → ℕ → Type 0
  pub faults : List ℕ → ℕ → TextFault → Type 0

-- a part of a text that is not empty, at a place or after it
pub record IsPartAfter (source : List ℕ) (from : ℕ) (span : Span) : Type 0 where
  pub forward : from ≤ span.start
  pub nonempty : span.start < span.end
  pub within : span.end ≤ length source

-- a fault that bytes have without regard to a grammar
abbrev pub IsLexical : TextFault → Type 0
IsLexical (Lex at) = Unit {0}
IsLexical (Number at) = Unit {0}
IsLexical (Syntax at) = ⊥
IsLexical TooLong = ⊥

-- a text goes on from each place in one way: with one token, with one fault, or with nothing more
pub record GoesOneWay {Kind : Type 0} (format : TextFormat Kind) : Type 0 where
  pub following : (source : List ℕ) (from : ℕ) (lexeme : Lexeme Kind)
      → format.follows source from lexeme → IsPartAfter source from lexeme.span
  pub lexical : (source : List ℕ) (from : ℕ) (fault : TextFault)
      → format.faults source from fault → IsLexical fault
  pub one_token : (source : List ℕ) (from : ℕ) (one other : Lexeme Kind)
      → format.follows source from one → format.follows source from other → one ≡ other
  pub one_fault : (source : List ℕ) (from : ℕ) (one other : TextFault)
      → format.faults source from one → format.faults source from other → one ≡ other
  pub no_token_and_fault : (source : List ℕ) (from : ℕ) (lexeme : Lexeme Kind) (fault : TextFault)
      → format.follows source from lexeme → format.faults source from fault → ⊥
  pub no_token_at_end : (source : List ℕ) (from : ℕ) (lexeme : Lexeme Kind)
      → format.follows source from lexeme → format.ends source from → ⊥
  pub no_fault_at_end : (source : List ℕ) (from : ℕ) (fault : TextFault)
      → format.faults source from fault → format.ends source from → ⊥
  pub some_way : (source : List ℕ) (from : ℕ) → from ≤ length source
      → format.ends source from ⊎ (((lexeme : Lexeme Kind) × format.follows source from lexeme)
      ⊎ ((fault : TextFault) × format.faults source from fault))
