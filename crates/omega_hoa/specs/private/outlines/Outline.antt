-- The tokens of a text that is to hold one segment, without the inside of the segment.
use Rattle.std.specs.Prelude.{◌≡◌, ℕ, List, [], ◌∷◌, ◌++◌}
use Rattle.omega_text.specs.Lexeme.{Lexeme}
use Rattle.omega_text.specs.hoa.Format.{hoa_format}
use Rattle.omega_text.specs.Cut.{Cuts, IsCut}
use Rattle.omega_text.specs.declared.hoa.kind.HoaKind.{HoaKind}
use Rattle.omega_text.specs.declared.hoa.kind.HoaKind.TheVariants.{End, Abort}
use Rattle.omega_hoa.specs.Stream.{IsOpen, Opens}
use Rattle.omega_hoa.specs.declared.outline.TextOutline.{TextOutline}
use Rattle.omega_hoa.specs.declared.outline.TextOutline.TheVariants.{Empty, Stray, Open}
use Rattle.omega_hoa.specs.declared.outline.TextOutline.TheVariants.{Aborted, Whole, Followed}

-- a token at a place that opens no segment, and others
pub record BeginsStray (lexemes : List (Lexeme HoaKind)) (at : ℕ) : Type 0 where
  pub first : Lexeme HoaKind
  pub rest : List (Lexeme HoaKind)
  pub split : lexemes ≡ first ∷ rest
  pub other : Opens first → ⊥
  pub there : at ≡ first.span.start

-- a segment that `--ABORT--` at this place ends, and other tokens
pub record BeginsAborted (lexemes : List (Lexeme HoaKind)) (at : ℕ) : Type 0 where
  pub inside : List (Lexeme HoaKind)
  pub last : Lexeme HoaKind
  pub rest : List (Lexeme HoaKind)
  pub split : lexemes ≡ inside ++ last ∷ rest
  pub begun : IsOpen inside
  pub aborts : last.kind ≡ Abort
  pub there : at ≡ last.span.start

-- a segment that ends with `--END--`, up to a place
pub record IsWhole (lexemes : List (Lexeme HoaKind)) (end : ℕ) : Type 0 where
  pub inside : List (Lexeme HoaKind)
  pub last : Lexeme HoaKind
  pub split : lexemes ≡ inside ++ last ∷ []
  pub begun : IsOpen inside
  pub ends : last.kind ≡ End
  pub there : end ≡ last.span.end

-- such a segment, and then a token at a place, and others
pub record IsFollowed (lexemes : List (Lexeme HoaKind)) (end at : ℕ) : Type 0 where
  pub front : List (Lexeme HoaKind)
  pub next : Lexeme HoaKind
  pub rest : List (Lexeme HoaKind)
  pub split : lexemes ≡ front ++ next ∷ rest
  pub whole : IsWhole front end
  pub there : at ≡ next.span.start

-- what the tokens are
abbrev pub IsOutline : List (Lexeme HoaKind) → TextOutline → Type 0
IsOutline lexemes Empty = lexemes ≡ []
IsOutline lexemes (Stray at) = BeginsStray lexemes at
IsOutline lexemes Open = IsOpen lexemes
IsOutline lexemes (Aborted at) = BeginsAborted lexemes at
IsOutline lexemes (Whole end) = IsWhole lexemes end
IsOutline lexemes (Followed end next) = IsFollowed lexemes end next

-- whatever tokens the first outline is of, the second is of those and one more
abbrev pub GoesOnWith : TextOutline → Lexeme HoaKind → TextOutline → Type 0
GoesOnWith old lexeme new = (lexemes : List (Lexeme HoaKind)) → IsOutline lexemes old
    → IsOutline (lexemes ++ lexeme ∷ []) new

-- the tokens of a text, and what they are
pub record HasOutline (source : List ℕ) (outline : TextOutline) : Type 0 where
  pub lexemes : List (Lexeme HoaKind)
  pub cut : IsCut hoa_format source lexemes
  pub is : IsOutline lexemes outline

-- the tokens of a text up to a place, and what they are
pub record HasOutlineTo (source : List ℕ) (place : ℕ) (outline : TextOutline) : Type 0 where
  pub lexemes : List (Lexeme HoaKind)
  pub cuts : Cuts hoa_format source 0 lexemes place
  pub is : IsOutline lexemes outline

-- a text whose tokens are one segment, up to a place
pub record HasWhole (source : List ℕ) (end : ℕ) : Type 0 where
  pub lexemes : List (Lexeme HoaKind)
  pub cut : IsCut hoa_format source lexemes
  pub is : IsWhole lexemes end

-- a text whose tokens are one segment, up to a place, and others after it, the first at another place
pub record HasFollowed (source : List ℕ) (end at : ℕ) : Type 0 where
  pub lexemes : List (Lexeme HoaKind)
  pub cut : IsCut hoa_format source lexemes
  pub is : IsFollowed lexemes end at
