-- What it means that nothing is read of tokens: at which of them that is first seen.
use Rattle.std.specs.Prelude.{◌≡◌, ℕ, List, [], ◌∷◌, ◌++◌}
use Rattle.omega_text.specs.Cases.{never, or_memory, or_text}
use Rattle.omega_text.specs.Cursor.{next_place}
use Rattle.omega_text.specs.Lexeme.{Lexeme}
use Rattle.omega_text.specs.declared.hoa.kind.HoaKind.{HoaKind}
use Rattle.omega_text.specs.declared.refusal.Refusal.{Refusal}
use Rattle.omega_text.specs.declared.refusal.text.TextFault.{TextFault}
use Rattle.omega_text.specs.declared.refusal.text.TextFault.TheVariants.{Syntax}

-- other tokens agree with these through their first one; with none agree none alone
abbrev pub AgreeThroughNext : (tokens others : List (Lexeme HoaKind)) → Type 0
AgreeThroughNext [] others = others ≡ []
AgreeThroughNext (next ∷ rest) others = (more : List (Lexeme HoaKind)) × (others ≡ next ∷ more)

-- This is the first place at which it is seen that nothing is read. What is before it begins something that is read,
-- and nothing is read of any tokens that agree with these through the one at this place. At the length of the text,
-- after the last of them, nothing is read of these.
pub record IsFirstUnread (IsNone IsBegun : List (Lexeme HoaKind) → Type 0)
    (tokens : List (Lexeme HoaKind)) (length place : ℕ) : Type 0 where
  pub before : List (Lexeme HoaKind)
  pub left : List (Lexeme HoaKind)
  pub split : tokens ≡ before ++ left
  pub there : place ≡ next_place left length
  pub begun : IsBegun before
  pub unread : (others : List (Lexeme HoaKind)) → AgreeThroughNext left others
      → IsNone (before ++ others)

-- the fault of a syntax, at the first place at which it is seen
abbrev pub IsSyntax : (IsNone IsBegun : List (Lexeme HoaKind) → Type 0) → List (Lexeme HoaKind)
    → ℕ → TextFault → Type 0
IsSyntax IsNone IsBegun tokens length (Syntax at) = IsFirstUnread IsNone IsBegun tokens length at
IsSyntax IsNone IsBegun tokens length fault = ⊥

-- the refusals of reading, if nothing is read
abbrev pub IsUnread : (IsNone IsBegun : List (Lexeme HoaKind) → Type 0) → List (Lexeme HoaKind)
    → ℕ → Refusal → Type 0
IsUnread IsNone IsBegun tokens length =
    or_text (IsSyntax IsNone IsBegun tokens length) (or_memory never)
