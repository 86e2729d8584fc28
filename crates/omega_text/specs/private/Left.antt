-- The tokens of a text that are left after some of them were taken.
use Rattle.std.specs.Prelude.{◌≡◌, ℕ, ◌≤◌, Option, Some, None, List, [], ◌∷◌, length}
use Rattle.std.specs.Coded.{Coded, Coded-set, code_by, coded×, coded_list, coded_ℕ}
use Rattle.std.proofs.Common.{refl}
use Rattle.std.proofs.Math.Logic.{∥∥₁_elim, ∥∥₁_prop}
use mathlib.Core.HLevel.{is_prop→PathP}
use Rattle.omega_text.specs.Cut.{Cuts}
use Rattle.omega_text.specs.Format.{TextFormat}
use Rattle.omega_text.specs.Lexeme.{Lexeme}
use Rattle.omega_text.specs.declared.refusal.text.TextFault.{TextFault}
use Rattle.omega_text.specs.declared.token.Span.{Span}

-- from a place on, the tokens are the rest of the text, and nothing more follows
pub record IsRestOfText {Kind : Type 0} (format : TextFormat Kind) (source : List ℕ) (from : ℕ)
    (lexemes : List (Lexeme Kind)) : Type 0 where
  pub end : ℕ
  pub cuts : Cuts format source from lexemes end
  pub rest : format.ends source end

-- from a place on, the text can be cut up to this fault
pub record IsFaultFrom {Kind : Type 0} (format : TextFormat Kind) (source : List ℕ) (from : ℕ)
    (fault : TextFault) : Type 0 where
  pub lexemes : List (Lexeme Kind)
  pub end : ℕ
  pub cuts : Cuts format source from lexemes end
  pub fault_there : format.faults source end fault

-- the token is the first of those that are left, and the others are the rest of the text after it
pub record IsNextOfLeft {Kind : Type 0} (format : TextFormat Kind) (source : List ℕ)
    (lexeme : Lexeme Kind) (lexemes : List (Lexeme Kind)) : Type 0 where
  pub others : List (Lexeme Kind)
  pub split : lexemes ≡ lexeme ∷ others
  pub within : lexeme.span.end ≤ length source
  pub following : IsRestOfText format source lexeme.span.end others

-- the next token, by its parts, if there is one
abbrev pub next_of : {Kind : Type 0} → Option Kind → List ℕ → ℕ → Span → Option (Lexeme Kind)
next_of None text value span = None
next_of (Some kind) text value span =
    Some (record { kind = kind; text = text; value = value; span = span })

-- the tokens that are left, by the next one
abbrev pub IsLeft : {Kind : Type 0} → TextFormat Kind → List ℕ → Option (Lexeme Kind)
    → List (Lexeme Kind) → Type 0
IsLeft format source None lexemes = lexemes ≡ []
IsLeft format source (Some lexeme) lexemes = IsNextOfLeft format source lexeme lexemes

-- these tokens are left, and no others
pub record IsAllLeft {Kind : Type 0} (format : TextFormat Kind) (source : List ℕ)
    (next : Option (Lexeme Kind)) (lexemes : List (Lexeme Kind)) : Type 0 where
  pub are_left : IsLeft format source next lexemes
  pub only : (others : List (Lexeme Kind)) → IsLeft format source next others → lexemes ≡ others

-- the tokens that are left
pub record Left {Kind : Type 0} (format : TextFormat Kind) (source : List ℕ)
    (next : Option (Lexeme Kind)) : Type 0 where
  pub lexemes : List (Lexeme Kind)
  pub all_left : ∥ IsAllLeft format source next lexemes ∥₁

-- a token is stored as the tuple of what it says
abbrev pub lexeme_code : {Kind : Type 0} → Coded Kind → Coded (Lexeme Kind)
lexeme_code {Kind} kind = code_by (Kind × (List ℕ × (ℕ × (ℕ × ℕ))))
    (coded× kind (coded× (coded_list coded_ℕ) (coded× coded_ℕ (coded× coded_ℕ coded_ℕ))))
    (λ l. (l.kind, (l.text, (l.value, (l.span.start, l.span.end))))) (λ t. record {
      kind = t.0;
      text = t.1.0;
      value = t.1.1.0;
      span = record { start = t.1.1.1.0; end = t.1.1.1.1 };
    }) (λ _. refl)

-- the tokens that are left are one list
pub Left-prop : {Kind : Type 0} → Coded Kind
    → (format : TextFormat Kind) (source : List ℕ) (next : Option (Lexeme Kind))
    → IsProp (Left format source next)
Left-prop {Kind} kind format source next one other =
    let set : IsProp (one.lexemes ≡ other.lexemes) = Coded-set (coded_list (lexeme_code kind))
    one.lexemes other.lexemes in
    let same : one.lexemes ≡ other.lexemes = ∥∥₁_elim one.all_left set
    (λ all. ∥∥₁_elim other.all_left set (λ again. all.only other.lexemes again.are_left)) in
    λ i. record {
      lexemes = same i;
      all_left = is_prop→PathP (λ j. ∥ IsAllLeft format source next (same j) ∥₁)
          (λ j. ∥∥₁_prop) one.all_left other.all_left i;
    }
