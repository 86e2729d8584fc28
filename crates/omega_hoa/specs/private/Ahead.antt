-- The tokens at the front of some bytes: up to the first `--END--`, or as far as the bytes can be cut.
use Rattle.std.specs.Prelude.{◌≡◌, ℕ, ◌≤◌, Bool, true, false, Option, Some, None, List, [], ◌∷◌, length}
use Rattle.std.specs.Coded.{Coded-set, coded×, coded_list, coded_ℕ}
use Rattle.std.proofs.Math.Logic.{∥∥₁_elim, ∥∥₁_prop}
use mathlib.Core.HLevel.{is_prop→PathP}
use Rattle.omega_text.specs.Cut.{Cuts}
use Rattle.omega_text.specs.Lexeme.{Lexeme}
use Rattle.omega_text.specs.contracts.hoa.kind.HoaKind as hoa_kind
use Rattle.omega_text.specs.declared.hoa.kind.HoaKind.{HoaKind}
use Rattle.omega_text.specs.declared.hoa.kind.HoaKind.TheVariants.{End}
use Rattle.omega_text.specs.declared.token.Span.{Span}
use Rattle.omega_text.specs.hoa.Cut.{Follows}
use Rattle.omega_text.specs.hoa.Format.{hoa_format}
use Rattle.omega_text.specs.private.Left.{lexeme_code}
use Rattle.omega_hoa_automaton.specs.Automaton.{Description}
use Rattle.omega_hoa.specs.Segment.{IsAutomatonOf}
use Rattle.omega_hoa.specs.Stream.{IsSegment}

-- the mark `--END--`
abbrev pub is_last : HoaKind → Bool
is_last End = true
is_last kind = false

-- from a place on, no token follows
abbrev pub NoneFollows : List ℕ → ℕ → Type 0
NoneFollows source from = (lexeme : Lexeme HoaKind) → Follows source from lexeme → ⊥

-- the tokens from one place up to another: the last is the first `--END--`, or no other follows; if `--END--` is before
-- them there is none
abbrev pub IsFront : List ℕ → Bool → ℕ → List (Lexeme HoaKind) → ℕ → Type 0
IsFront source ended from [] to = (from ≡ to) × (ended ≡ false → NoneFollows source from)
IsFront source ended from (lexeme ∷ lexemes) to = (ended ≡ false) × Follows source from lexeme
    × IsFront source (is_last lexeme.kind) lexeme.span.end lexemes to

-- some tokens, and where they end
abbrev pub Front : Type 0
Front = List (Lexeme HoaKind) × ℕ

-- the token is the first of the front, and the others come after it
pub record IsNextAhead (source : List ℕ) (lexeme : Lexeme HoaKind) (front : Front) : Type 0 where
  pub others : List (Lexeme HoaKind)
  pub split : front.0 ≡ lexeme ∷ others
  pub within : lexeme.span.end ≤ length source
  pub following : IsFront source (is_last lexeme.kind) lexeme.span.end others front.1

-- the next token, by its parts, if there is one
abbrev pub token_ahead : Option HoaKind → List ℕ → ℕ → Span → Option (Lexeme HoaKind)
token_ahead None text value span = None
token_ahead (Some kind) text value span =
    Some (record { kind = kind; text = text; value = value; span = span })

-- the front by its next token, or by the place where it ends
abbrev pub IsAhead : List ℕ → Option (Lexeme HoaKind) → ℕ → Front → Type 0
IsAhead source None place front = (front.0 ≡ []) × (front.1 ≡ place)
IsAhead source (Some lexeme) place front = IsNextAhead source lexeme front

-- this is the front, and no other is
pub record IsAllAhead (source : List ℕ) (next : Option (Lexeme HoaKind)) (place : ℕ)
    (front : Front) : Type 0 where
  pub is : IsAhead source next place front
  pub only : (other : Front) → IsAhead source next place other → front ≡ other

-- the tokens that are ahead
pub record Ahead (source : List ℕ) (next : Option (Lexeme HoaKind)) (place : ℕ) : Type 0 where
  pub front : Front
  pub all : ∥ IsAllAhead source next place front ∥₁

-- fronts are equal in one way
pub Front-set : (one other : Front) → IsProp (one ≡ other)
Front-set one other =
    Coded-set (coded× (coded_list (lexeme_code hoa_kind.the_row.coded)) coded_ℕ) one other

-- the tokens that are ahead are one list
pub Ahead-prop : (source : List ℕ) (next : Option (Lexeme HoaKind)) (place : ℕ)
    → IsProp (Ahead source next place)
Ahead-prop source next place one other =
    let set : IsProp (one.front ≡ other.front) = Front-set one.front other.front in
    let same : one.front ≡ other.front =
    ∥∥₁_elim one.all set (λ all. ∥∥₁_elim other.all set (λ again. all.only other.front again.is)) in
    λ i. record {
      front = same i;
      all = is_prop→PathP (λ j. ∥ IsAllAhead source next place (same j) ∥₁)
          (λ j. ∥∥₁_prop) one.all other.all i;
    }

-- bytes begin with a segment up to a place, whose tokens are this automaton's
pub record BeginsAutomatonTo (bytes : List ℕ) (end : ℕ) (automaton : Description) : Type 0 where
  pub lexemes : List (Lexeme HoaKind)
  pub cuts : Cuts hoa_format bytes 0 lexemes end
  pub segment : IsSegment End lexemes
  pub value : IsAutomatonOf lexemes automaton
