-- The tokens of one segment that ends with `--END--`: they spell an automaton, or are faulty.
use Rattle.std.specs.Prelude.{◌≡◌, ℕ, Some, List, [], ◌∷◌, ◌++◌}
use Rattle.omega_text.specs.Cases.{never, or_automaton, or_text}
use Rattle.omega_text.specs.Lexeme.{Lexeme}
use Rattle.omega_text.specs.declared.hoa.kind.HoaKind.{HoaKind}
use Rattle.omega_text.specs.declared.refusal.Refusal.{Refusal}
use Rattle.omega_text.specs.declared.refusal.automaton.AutomatonFault.{AutomatonFault}
use Rattle.omega_text.specs.declared.refusal.text.TextFault.{TextFault}
use Rattle.omega_text.specs.declared.refusal.text.TextFault.TheVariants.{Syntax}
use Rattle.omega_hoa_syntax.specs.Grammar.{BeginsAutomaton, ReadsAutomaton}
use Rattle.omega_hoa_syntax.specs.declared.raw_automaton.RawAutomaton.{RawAutomaton}
use Rattle.omega_hoa_automaton.specs.Automaton.{Description}
use Rattle.omega_hoa_automaton.specs.Faults.{automaton_fault_of}
use Rattle.omega_hoa_automaton.specs.Meaning.{Means}

-- all the tokens spell an automaton as it is written
abbrev pub IsRawOf : List (Lexeme HoaKind) → RawAutomaton → Type 0
IsRawOf lexemes raw = ReadsAutomaton lexemes raw []

-- they spell no automaton as it is written
abbrev pub IsNoRaw : List (Lexeme HoaKind) → Type 0
IsNoRaw lexemes = (raw : RawAutomaton) → IsRawOf lexemes raw → ⊥

-- they spell an automaton as it is written, which means this one
pub record IsAutomatonOf (lexemes : List (Lexeme HoaKind)) (automaton : Description) : Type 0 where
  pub raw : RawAutomaton
  pub written : IsRawOf lexemes raw
  pub means : Means raw automaton

-- they spell an automaton as it is written, which has this fault
pub record HasMeaningFault (lexemes : List (Lexeme HoaKind)) (fault : AutomatonFault) : Type 0 where
  pub raw : RawAutomaton
  pub written : IsRawOf lexemes raw
  pub has : automaton_fault_of raw ≡ Some fault

-- this is the place of the first token through which none begins: an automaton begins with the tokens before it, and
-- none, as it is written, with the tokens through it
pub record IsFirstUnwritten (lexemes : List (Lexeme HoaKind)) (place : ℕ) : Type 0 where
  pub before : List (Lexeme HoaKind)
  pub token : Lexeme HoaKind
  pub rest : List (Lexeme HoaKind)
  pub split : lexemes ≡ before ++ token ∷ rest
  pub there : place ≡ token.span.start
  pub begun : BeginsAutomaton before
  pub unwritten : (more : List (Lexeme HoaKind)) → IsNoRaw (before ++ token ∷ more)

-- a fault of syntax, at the first token through which no automaton begins
abbrev pub IsSyntaxWithin : List (Lexeme HoaKind) → TextFault → Type 0
IsSyntaxWithin lexemes (Syntax at) = IsFirstUnwritten lexemes at
IsSyntaxWithin lexemes fault = ⊥

-- why the tokens are not an automaton's: `Syntax` at the first of them through which none begins, else a fault of
-- meaning
abbrev pub IsSegmentFault : List (Lexeme HoaKind) → Refusal → Type 0
IsSegmentFault lexemes =
    or_text (IsSyntaxWithin lexemes) (or_automaton (HasMeaningFault lexemes) never)
