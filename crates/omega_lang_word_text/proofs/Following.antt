-- Where it is first seen that nothing is read: after what was read, or at a token that is missing.
use Rattle.std.proofs.Common.{◌≡◌, ℕ, List, [], ◌∷◌, ◌++◌, ap, append_assoc, refl, sym, ◌∙◌, subst}
use Rattle.omega_hoa_expression.specs.Passing.{IsMissing, NextIsNot}
use Rattle.omega_hoa_expression.specs.Unread.{AgreeThroughNext, IsFirstUnread, IsUnread}
use Rattle.omega_hoa_expression.proofs.UnreadLemmas.{not_through}
use Rattle.omega_text.specs.Cursor.{next_place}
use Rattle.omega_text.specs.Lexeme.{Lexeme}
use Rattle.omega_text.specs.declared.hoa.kind.HoaKind.{HoaKind}
use Rattle.omega_text.specs.declared.refusal.Refusal.{Refusal}
use Rattle.omega_text.specs.declared.refusal.Refusal.TheVariants as refusals
use Rattle.omega_text.specs.declared.refusal.text.TextFault.TheVariants as faults

abbrev pub Tokens : Type 0
Tokens = List (Lexeme HoaKind)

-- what agrees through the next token of the end of tokens agrees with the tokens too
pub agree_front : (rest before left others : Tokens) → rest ≡ before ++ left → AgreeThroughNext left others → AgreeThroughNext rest (before ++ others)
agree_front rest [] left others is agree = subst (λ (r : Tokens). AgreeThroughNext r others) (sym is) agree
agree_front rest (next ∷ more) left others is agree = subst (λ (r : Tokens). AgreeThroughNext r (next ∷ (more ++ others))) (sym is) (more ++ others, refl)

module _ (IsMore IsMoreBegun IsNone IsBegun : Tokens → Type 0) (length : ℕ) where
  -- it is first seen where it is seen of what comes after some tokens
  pub first_then : (whole front rest : Tokens) → whole ≡ front ++ rest
      → ((others : Tokens) → AgreeThroughNext rest others → IsMore others → IsNone (front ++ others))
      → ((before : Tokens) → IsMoreBegun before → IsBegun (front ++ before))
      → (place : ℕ) → IsFirstUnread IsMore IsMoreBegun rest length place → IsFirstUnread IsNone IsBegun whole length place
  first_then whole front rest split follows begins place is = record {
    before = front ++ is.before;
    left = is.left;
    split = split ∙ (ap (λ (r : Tokens). front ++ r) is.split ∙ sym (append_assoc front is.before is.left));
    there = is.there;
    begun = begins is.before is.begun;
    unread = λ others agree. subst IsNone (sym (append_assoc front is.before others))
        (follows (is.before ++ others) (agree_front rest is.before is.left others is.split agree) (is.unread others agree));
  }

  -- so a refusal of the one is one of the other
  pub refused_then : (whole rest : Tokens)
      → ((place : ℕ) → IsFirstUnread IsMore IsMoreBegun rest length place → IsFirstUnread IsNone IsBegun whole length place)
      → (refusal : Refusal) → IsUnread IsMore IsMoreBegun rest length refusal → IsUnread IsNone IsBegun whole length refusal
  refused_then whole rest follows (refusals.Text (faults.Syntax at)) is = follows at is
  refused_then whole rest follows (refusals.Text other) is = is
  refused_then whole rest follows (refusals.Game fault) is = is
  refused_then whole rest follows (refusals.Circuit fault) is = is
  refused_then whole rest follows (refusals.Automaton fault) is = is
  refused_then whole rest follows (refusals.Task fault) is = is
  refused_then whole rest follows refusals.Memory is = is
  refused_then whole rest follows refusals.Io is = is

-- it is first seen where a token of a kind is missing after some tokens
pub first_lacking : (IsNone IsBegun : Tokens → Type 0) (sort : HoaKind) (whole front rest : Tokens) (length : ℕ) (refusal : Refusal) → whole ≡ front ++ rest
    → IsBegun front → ((others : Tokens) → AgreeThroughNext rest others → NextIsNot sort others → IsNone (front ++ others))
    → IsMissing sort rest length refusal → IsUnread IsNone IsBegun whole length refusal
first_lacking IsNone IsBegun sort whole front rest length refusal split begun follows missing =
    subst (IsUnread IsNone IsBegun whole length) (sym missing.is)
    (record {
      before = front;
      left = rest;
      split = split;
      there = refl;
      begun = begun;
      unread = λ others agree. follows others agree (not_through sort rest others agree missing.missing);
    })
