-- Texts that hold exactly one segment, ended by `--END--`.
use Rattle.std.specs.Prelude.{◌≡◌, ℕ, ◌<◌, ◌≤◌, ◌⊎◌, List, [], ◌∷◌, ◌++◌, length}
use Rattle.omega_text.specs.Cut.{IsCut, IsFault}
use Rattle.omega_text.specs.Lexeme.{Lexeme}
use Rattle.omega_text.specs.Limits.{most_text}
use Rattle.omega_text.specs.Refusal.{number_of}
use Rattle.omega_text.specs.hoa.Format.{hoa_format}
use Rattle.omega_text.specs.declared.hoa.kind.HoaKind.{HoaKind}
use Rattle.omega_text.specs.declared.hoa.kind.HoaKind.TheVariants.{End, Abort}
use Rattle.omega_text.specs.declared.refusal.Refusal.{Refusal}
use Rattle.omega_text.specs.declared.refusal.Refusal.TheVariants.{Text}
use Rattle.omega_text.specs.declared.refusal.text.TextFault.{TextFault}
use Rattle.omega_text.specs.declared.refusal.text.TextFault.TheVariants.{Syntax, TooLong}
use Rattle.omega_hoa_syntax.specs.declared.raw_automaton.RawAutomaton.{RawAutomaton}
use Rattle.omega_hoa_automaton.specs.Automaton.{Description}
use Rattle.omega_hoa.specs.Segment.{IsAutomatonOf, IsRawOf, IsSegmentFault}
use Rattle.omega_hoa.specs.Stream.{IsOpen, IsSegment, Opens}

-- the text of this automaton
pub record IsAutomatonText (source : List ℕ) (automaton : Description) : Type 0 where
  pub short : length source ≤ most_text
  pub lexemes : List (Lexeme HoaKind)
  pub cut : IsCut hoa_format source lexemes
  pub segment : IsSegment End lexemes
  pub value : IsAutomatonOf lexemes automaton

-- the tokens begin with no segment, or with one that has no `--END--`: `Syntax` is at the first token or at the length
-- of an empty text, at the length, or at `--ABORT--`
abbrev pub HasNoSegmentAt : ℕ → List (Lexeme HoaKind) → ℕ → Type 0
HasNoSegmentAt length lexemes at = ((lexemes ≡ []) × (at ≡ length))
    ⊎ (((first : Lexeme HoaKind) × (rest : List (Lexeme HoaKind)) × (lexemes ≡ first ∷ rest)
    × (Opens first → ⊥) × (at ≡ first.span.start)) ⊎ ((IsOpen lexemes × (at ≡ length))
    ⊎ ((inside : List (Lexeme HoaKind)) × (last : Lexeme HoaKind) × (rest : List (Lexeme HoaKind))
    × (lexemes ≡ inside ++ last ∷ rest) × IsOpen inside × (last.kind ≡ Abort) × (at ≡ last.span.start))))

-- the tokens of a segment are in the grammar: an automaton is written so, whatever it means
abbrev pub IsInGrammar : List (Lexeme HoaKind) → Type 0
IsInGrammar lexemes = (raw : RawAutomaton) × IsRawOf lexemes raw

-- the tokens begin with a segment that ends with `--END--`, and are refused: by its syntax, then by a token after it,
-- then by its meaning
pub record IsSegmentRefused (lexemes : List (Lexeme HoaKind)) (refusal : Refusal) : Type 0 where
  pub segment : List (Lexeme HoaKind)
  pub rest : List (Lexeme HoaKind)
  pub split : lexemes ≡ segment ++ rest
  pub whole : IsSegment End segment
  pub refused : (IsSegmentFault segment refusal × ((number_of refusal ≡ 3) ⊎ (rest ≡ [])))
      ⊎ (IsInGrammar segment × ((next : Lexeme HoaKind) × (more : List (Lexeme HoaKind))
      × (rest ≡ next ∷ more) × (refusal ≡ Text (Syntax next.span.start))))

-- the refusal of tokens that do not make one automaton, in a text of this length
abbrev pub AreRefused : ℕ → List (Lexeme HoaKind) → Refusal → Type 0
AreRefused length lexemes refusal =
    ((at : ℕ) × (refusal ≡ Text (Syntax at)) × HasNoSegmentAt length lexemes at)
    ⊎ IsSegmentRefused lexemes refusal

-- the refusal of a text that is not that of one automaton: its length first, then a fault of tokens wherever it is,
-- then what the tokens are
abbrev pub IsAutomatonRefusal : List ℕ → Refusal → Type 0
IsAutomatonRefusal source refusal = ((refusal ≡ Text TooLong) × (most_text < length source))
    ⊎ ((length source ≤ most_text)
    × (((fault : TextFault) × (refusal ≡ Text fault) × IsFault hoa_format source fault)
    ⊎ ((lexemes : List (Lexeme HoaKind)) × IsCut hoa_format source lexemes
    × AreRefused (length source) lexemes refusal)))
