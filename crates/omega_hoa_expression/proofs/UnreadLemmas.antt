-- Where nothing is read, and where it is first seen.
use Rattle.std.proofs.Common.{◌≡◌, ℕ, List, [], ◌∷◌, ◌++◌, ap, append_assoc, refl, sym, ◌∙◌, subst}
use Rattle.omega_hoa_expression.specs.Passing.{IsMissing, NextIsNot}
use Rattle.omega_hoa_expression.specs.Unread.{AgreeThroughNext, IsFirstUnread, IsUnread}
use Rattle.omega_text.specs.Cursor.{next_place}
use Rattle.omega_text.specs.Lexeme.{Lexeme}
use Rattle.omega_text.specs.declared.hoa.kind.HoaKind.{HoaKind}
use Rattle.omega_text.specs.declared.refusal.Refusal.{Refusal}
use Rattle.omega_text.specs.declared.refusal.Refusal.TheVariants as refusals
use Rattle.omega_text.specs.declared.refusal.text.TextFault.TheVariants as faults

-- tokens agree with themselves
pub agree_same : (tokens : List (Lexeme HoaKind)) → AgreeThroughNext tokens tokens
agree_same [] = refl
agree_same (next ∷ rest) = (rest, refl)

-- what is not the kind of the next token is not that of tokens that agree
pub not_through : (sort : HoaKind) (tokens others : List (Lexeme HoaKind)) → AgreeThroughNext tokens others → NextIsNot sort tokens → NextIsNot sort others
not_through sort [] others agree not = subst (NextIsNot sort) (sym agree) tt
not_through sort (next ∷ rest) others agree not = subst (NextIsNot sort) (sym agree.1) not

-- that nothing is read is first seen at the next token
pub first_next : (IsNone IsBegun : List (Lexeme HoaKind) → Type 0) (whole front left : List (Lexeme HoaKind)) (length place : ℕ) → whole ≡ front ++ left → place ≡ next_place left length
    → IsBegun front → ((others : List (Lexeme HoaKind)) → AgreeThroughNext left others → IsNone (front ++ others)) → IsFirstUnread IsNone IsBegun whole length place
first_next IsNone IsBegun whole front left length place split there begun unread = record { before = front; left = left; split = split; there = there; begun = begun; unread = unread }

-- it is first seen where it is seen of what comes after some tokens, if what begins that, after these, begins something
-- that is read
pub first_after : (IsNone IsMore IsBegun IsMoreBegun : List (Lexeme HoaKind) → Type 0) (whole front left : List (Lexeme HoaKind)) (length : ℕ) (refusal : Refusal) → whole ≡ front ++ left
    → ((others : List (Lexeme HoaKind)) → IsMore others → IsNone (front ++ others)) → ((before : List (Lexeme HoaKind)) → IsMoreBegun before → IsBegun (front ++ before))
    → IsUnread IsMore IsMoreBegun left length refusal → IsUnread IsNone IsBegun whole length refusal
first_after IsNone IsMore IsBegun IsMoreBegun whole front left length (refusals.Text (faults.Syntax at)) split follows begins is = record {
  before = front ++ is.before;
  left = is.left;
  split = split ∙ (ap (λ rest. front ++ rest) is.split ∙ sym (append_assoc front is.before is.left));
  there = is.there;
  begun = begins is.before is.begun;
  unread = λ others agree. subst IsNone (sym (append_assoc front is.before others)) (follows (is.before ++ others) (is.unread others agree));
}
first_after IsNone IsMore IsBegun IsMoreBegun whole front left length (refusals.Text other) split follows begins is = is
first_after IsNone IsMore IsBegun IsMoreBegun whole front left length (refusals.Game fault) split follows begins is = is
first_after IsNone IsMore IsBegun IsMoreBegun whole front left length (refusals.Circuit fault) split follows begins is = is
first_after IsNone IsMore IsBegun IsMoreBegun whole front left length (refusals.Automaton fault) split follows begins is = is
first_after IsNone IsMore IsBegun IsMoreBegun whole front left length (refusals.Task fault) split follows begins is = is
first_after IsNone IsMore IsBegun IsMoreBegun whole front left length refusals.Memory split follows begins is = is
first_after IsNone IsMore IsBegun IsMoreBegun whole front left length refusals.Io split follows begins is = is

-- it is first seen where a token of a kind is missing, if nothing is read of any tokens that do not begin with one, and
-- something is read of some
pub first_missing : (IsNone IsBegun : List (Lexeme HoaKind) → Type 0) (sort : HoaKind) (tokens : List (Lexeme HoaKind)) (length : ℕ) (refusal : Refusal) → IsBegun []
    → ((others : List (Lexeme HoaKind)) → NextIsNot sort others → IsNone others) → IsMissing sort tokens length refusal → IsUnread IsNone IsBegun tokens length refusal
first_missing IsNone IsBegun sort tokens length refusal begun follows missing =
    subst (IsUnread IsNone IsBegun tokens length) (sym missing.is)
    (first_next IsNone IsBegun tokens [] tokens length (next_place tokens length) refl refl begun (λ others agree. follows others (not_through sort tokens others agree missing.missing)))

-- the same refusal of a text of the same length
pub first_same : (IsNone IsBegun : List (Lexeme HoaKind) → Type 0) (tokens : List (Lexeme HoaKind)) (length long : ℕ) (refusal error : Refusal) → error ≡ refusal → long ≡ length
    → IsUnread IsNone IsBegun tokens long refusal → IsUnread IsNone IsBegun tokens length error
first_same IsNone IsBegun tokens length long refusal error is same unread =
    subst (IsUnread IsNone IsBegun tokens length) (sym is) (subst (λ l. IsUnread IsNone IsBegun tokens l refusal) same unread)

-- of two parts of the same tokens one goes through the token after the other, or they are the same
sides : (Wanted : List (Lexeme HoaKind) → List (Lexeme HoaKind) → List (Lexeme HoaKind) → List (Lexeme HoaKind) → Type 0)
    → ((front left : List (Lexeme HoaKind)) → Wanted front left front left)
    → ((front : List (Lexeme HoaKind)) (next : Lexeme HoaKind) (more left : List (Lexeme HoaKind)) → Wanted front (next ∷ (more ++ left)) (front ++ next ∷ more) left)
    → ((front : List (Lexeme HoaKind)) (next : Lexeme HoaKind) (more left : List (Lexeme HoaKind)) → Wanted (front ++ next ∷ more) left front (next ∷ (more ++ left)))
    → (one left other rest : List (Lexeme HoaKind)) → one ++ left ≡ other ++ rest → Wanted one left other rest
sides Wanted same longer shorter [] left [] rest is = subst (λ r. Wanted [] left [] r) is (same [] left)
sides Wanted same longer shorter [] left (next ∷ more) rest is = subst (λ l. Wanted [] l (next ∷ more) rest) (sym is) (longer [] next more rest)
sides Wanted same longer shorter (next ∷ more) left [] rest is = subst (λ r. Wanted (next ∷ more) left [] r) is (shorter [] next more left)
sides Wanted same longer shorter (next ∷ more) left (first ∷ others) rest is =
    let e : next ∷ (more ++ left) ≡ first ∷ (others ++ rest) = is in
    let head : next ≡ first = cc in
    let tail : more ++ left ≡ others ++ rest = cc in
    subst (λ token. Wanted (next ∷ more) left (token ∷ others) rest) head
    (sides (λ a b c d. Wanted (next ∷ a) b (next ∷ c) d) (λ front l. same (next ∷ front) l) (λ front n m l. longer (next ∷ front) n m l) (λ front n m l. shorter (next ∷ front) n m l) more left others rest tail)

-- two places that are both the first at which it is seen that nothing is read are one, if what begins something is read
-- with some more tokens
pub first_is_one : (IsNone IsBegun : List (Lexeme HoaKind) → Type 0) (tokens : List (Lexeme HoaKind)) (length one other : ℕ)
    → ((before : List (Lexeme HoaKind)) → IsBegun before → ((more : List (Lexeme HoaKind)) → IsNone (before ++ more)) → ⊥)
    → IsFirstUnread IsNone IsBegun tokens length one → IsFirstUnread IsNone IsBegun tokens length other → one ≡ other
first_is_one IsNone IsBegun tokens length one other read first second =
    sides (λ front left longer rest. ((others : List (Lexeme HoaKind)) → AgreeThroughNext left others → IsNone (front ++ others)) → IsBegun front
    → ((others : List (Lexeme HoaKind)) → AgreeThroughNext rest others → IsNone (longer ++ others)) → IsBegun longer → one ≡ next_place left length → other ≡ next_place rest length → one ≡ other)
    (λ front left unread begun unread_too begun_too there there_too. there ∙ sym there_too)
    (λ front next more left unread begun unread_too begun_too there there_too.
    absurd (read (front ++ next ∷ more) begun_too (λ others. subst IsNone (sym (append_assoc front (next ∷ more) others)) (unread (next ∷ (more ++ others)) (more ++ others, refl)))))
    (λ front next more left unread begun unread_too begun_too there there_too.
    absurd (read (front ++ next ∷ more) begun (λ others. subst IsNone (sym (append_assoc front (next ∷ more) others)) (unread_too (next ∷ (more ++ others)) (more ++ others, refl)))))
    first.before first.left second.before second.left (sym first.split ∙ second.split)
    first.unread first.begun second.unread second.begun first.there second.there
