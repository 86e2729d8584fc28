-- What was read of a text, token by token.
use Rattle.std.specs.Prelude.{ℕ, Bool, true, false, List, [], ◌∷◌, ◌++◌, length, ◌≤◌}
use Rattle.omega_text.specs.Cases.{never, or_memory, or_text}
use Rattle.omega_text.specs.Cut.{Cuts, IsCut}
use Rattle.omega_text.specs.Format.{TextFormat}
use Rattle.omega_text.specs.Lexeme.{Lexeme}
use Rattle.omega_text.specs.Limits.{most_text}
use Rattle.omega_text.specs.Syntax.{IsFaultBy, IsUnfinished}
use Rattle.omega_text.specs.declared.refusal.Refusal.{Refusal}

-- a token of some text of the format
abbrev pub IsTokenOf : {Kind : Type 0} → TextFormat Kind → Lexeme Kind → Type 0
IsTokenOf format lexeme = (source : List ℕ) × (from : ℕ) × format.follows source from lexeme

-- a call took a token after others, or refused it: the others begin a text, and with it they begin none
abbrev pub TakesOrRefuses : {Kind : Type 0} → Bool → (List (Lexeme Kind) → Type 0)
    → (List (Lexeme Kind) → Type 0) → List (Lexeme Kind) → Lexeme Kind → Type 0
TakesOrRefuses true begins taken lexemes lexeme = taken (lexemes ++ lexeme ∷ [])
TakesOrRefuses false begins taken lexemes lexeme =
    begins lexemes × (begins (lexemes ++ lexeme ∷ []) → ⊥)

-- a call took the tokens of a text between two places after others
pub record TakesRun {Kind : Type 0} (format : TextFormat Kind) (taken : List (Lexeme Kind) → Type 0)
    (source : List ℕ) (from to : ℕ) (before : List (Lexeme Kind)) : Type 0 where
  pub run : List (Lexeme Kind)
  pub cuts : Cuts format source from run to
  pub all_taken : taken (before ++ run)

-- a call said of tokens whether they are a text
abbrev pub IsWholeOrUnfinished : {Kind : Type 0} → Bool
    → (begins completes : List (Lexeme Kind) → Type 0) → List (Lexeme Kind) → Type 0
IsWholeOrUnfinished true begins completes lexemes = completes lexemes
IsWholeOrUnfinished false begins completes lexemes = IsUnfinished begins completes lexemes

-- the text is within the limit and was read, and its tokens were taken and are a text
pub record IsReadText {Kind : Type 0} (format : TextFormat Kind)
    (taken completes : List (Lexeme Kind) → Type 0) (source : List ℕ) : Type 0 where
  pub short : length source ≤ most_text
  pub lexemes : List (Lexeme Kind)
  pub cut : IsCut format source lexemes
  pub all_taken : taken lexemes
  pub complete : completes lexemes

-- the refusal of a text that can't be read so, or memory
abbrev pub IsReadingRefusal : {Kind : Type 0} → TextFormat Kind
    → (begins completes : List (Lexeme Kind) → Type 0) → List ℕ → Refusal → Type 0
IsReadingRefusal format begins completes source =
    or_text (IsFaultBy format begins completes source) (or_memory never)
