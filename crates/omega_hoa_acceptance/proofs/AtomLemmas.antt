-- The set of an atom, with its parentheses.
use Rattle.std.proofs.Common.{◌≡◌, ℕ, ◌<◌, Bool, true, false, List, [], ◌∷◌, MatchBool, length, ap, refl, sym, ◌∙◌, subst, arith}
use Rattle.std.proofs.lemmas.List.{length-append, length-map}
use Rattle.omega_hoa_expression.specs.Symbols.{ExpressionSymbol, number, seen_as, sign, expression_symbol_of}
use Rattle.omega_hoa_acceptance.specs.private.layout.States.{BeginsSet, IsStuck, PassesSet, barred, entered, named, numbered}
use Rattle.omega_hoa_expression.specs.Passing.{IsMissing, NextIsNot, Passed, PassesNumber, PassesOne}
use Rattle.omega_hoa_acceptance.proofs.BeginLemmas.{begun_barred, begun_barred_number, begun_entered, begun_following, begun_numbered, begun_unentered}
use Rattle.omega_hoa_acceptance.proofs.Unread.{IsStuck-barred, IsStuck-entered, IsStuck-named, IsStuck-numbered, unread_following}
use Rattle.omega_hoa_expression.proofs.PassingLemmas.{passed_then}
use Rattle.omega_hoa_expression.proofs.UnreadLemmas.{first_missing, first_next, not_through}
use Rattle.omega_hoa_expression.specs.Unread.{IsUnread}
use Rattle.omega_text.specs.Cursor.{next_place}
use Rattle.omega_text.specs.Lexeme.{Lexeme}
use Rattle.omega_text.specs.declared.hoa.kind.HoaKind.{HoaKind}
use Rattle.omega_text.specs.declared.hoa.kind.HoaKind.TheVariants as kind
use Rattle.omega_text.specs.declared.refusal.Refusal.{Refusal}

-- a `!` is passed or not
abbrev IsBarred : Bool → (one two : List (Lexeme HoaKind)) → Type 0
IsBarred negated one two = MatchBool negated (PassesOne kind.Not one two) (two ≡ one)

unread_entered : (old one : List (Lexeme HoaKind)) (length : ℕ) (refusal : Refusal) → PassesOne kind.OpenParenthesis old one
    → IsUnread (IsStuck entered) (BeginsSet (sign kind.OpenParenthesis ∷ [])) one length refusal → IsUnread (IsStuck named) (BeginsSet []) old length refusal
unread_entered old one length refusal passes =
    let is = ap (λ k. seen_as k passes.lexeme.value passes.lexeme.text) passes.is in
    unread_following (BeginsSet []) (BeginsSet (sign kind.OpenParenthesis ∷ [])) old one passes.lexeme (sign kind.OpenParenthesis) named entered length refusal passes.next is (λ count. refl)
    (λ front. begun_following [] (sign kind.OpenParenthesis) passes.lexeme front is)

unread_barred : (one two : List (Lexeme HoaKind)) (length : ℕ) (refusal : Refusal) → PassesOne kind.Not one two
    → IsUnread (IsStuck barred) (BeginsSet (sign kind.OpenParenthesis ∷ sign kind.Not ∷ [])) two length refusal
    → IsUnread (IsStuck entered) (BeginsSet (sign kind.OpenParenthesis ∷ [])) one length refusal
unread_barred one two length refusal bar =
    let is = ap (λ k. seen_as k bar.lexeme.value bar.lexeme.text) bar.is in
    unread_following (BeginsSet (sign kind.OpenParenthesis ∷ [])) (BeginsSet (sign kind.OpenParenthesis ∷ sign kind.Not ∷ [])) one two bar.lexeme (sign kind.Not) entered barred length refusal bar.next is (λ count. refl)
    (λ front. begun_following (sign kind.OpenParenthesis ∷ []) (sign kind.Not) bar.lexeme front is)

-- neither `!` nor a set follows `(`
neither_unread : (one : List (Lexeme HoaKind)) (length : ℕ) (refusal : Refusal) → NextIsNot kind.Not one → IsMissing kind.Int one length refusal
    → IsUnread (IsStuck entered) (BeginsSet (sign kind.OpenParenthesis ∷ [])) one length refusal
neither_unread one length refusal other missing =
    subst (IsUnread (IsStuck entered) (BeginsSet (sign kind.OpenParenthesis ∷ [])) one length) (sym missing.is)
    (first_next (IsStuck entered) (BeginsSet (sign kind.OpenParenthesis ∷ [])) one [] one length (next_place one length) refl refl begun_entered
    (λ others agree. IsStuck-entered others (not_through kind.Not one others agree other) (not_through kind.Int one others agree missing.missing)))

-- no `(` follows the name of an atom
pub unentered_unread : (old : List (Lexeme HoaKind)) (length : ℕ) (refusal : Refusal) → IsMissing kind.OpenParenthesis old length refusal → IsUnread (IsStuck named) (BeginsSet []) old length refusal
unentered_unread old length refusal missing = first_missing (IsStuck named) (BeginsSet []) kind.OpenParenthesis old length refusal begun_unentered IsStuck-named missing

-- neither `!` nor a set follows `(`, or no set follows `!`
pub unset_unread : (old one two : List (Lexeme HoaKind)) (negated : Bool) (length : ℕ) (refusal : Refusal)
    → PassesOne kind.OpenParenthesis old one → IsBarred negated one two → MatchBool negated (Unit {0}) (NextIsNot kind.Not one)
    → IsMissing kind.Int two length refusal → IsUnread (IsStuck named) (BeginsSet []) old length refusal
unset_unread old one two true length refusal passes bar other missing =
    unread_entered old one length refusal passes
    (unread_barred one two length refusal bar
    (first_missing (IsStuck barred) (BeginsSet (sign kind.OpenParenthesis ∷ sign kind.Not ∷ [])) kind.Int two length refusal begun_barred IsStuck-barred missing))
unset_unread old one two false length refusal passes bar other missing =
    unread_entered old one length refusal passes
    (neither_unread one length refusal other (subst (λ tokens. IsMissing kind.Int tokens length refusal) bar missing))

-- no `)` follows the set
pub unclosed_unread : (old one two three : List (Lexeme HoaKind)) (negated : Bool) (set length : ℕ) (refusal : Refusal)
    → PassesOne kind.OpenParenthesis old one → IsBarred negated one two → PassesNumber set two three
    → IsMissing kind.CloseParenthesis three length refusal → IsUnread (IsStuck named) (BeginsSet []) old length refusal
unclosed_unread old one two three true set length refusal passes bar counts missing =
    let value = counts.lexeme.value in
    let is = ap (λ k. seen_as k value counts.lexeme.text) counts.is in
    let begun = BeginsSet (sign kind.OpenParenthesis ∷ sign kind.Not ∷ number value ∷ []) in
    unread_entered old one length refusal passes
    (unread_barred one two length refusal bar
    (unread_following (BeginsSet (sign kind.OpenParenthesis ∷ sign kind.Not ∷ [])) begun two three counts.lexeme (number value) barred numbered length refusal counts.next is (λ count. refl)
    (λ front. begun_following (sign kind.OpenParenthesis ∷ sign kind.Not ∷ []) (number value) counts.lexeme front is)
    (first_missing (IsStuck numbered) begun kind.CloseParenthesis three length refusal (begun_barred_number value) IsStuck-numbered missing)))
unclosed_unread old one two three false set length refusal passes bar counts missing =
    let value = counts.lexeme.value in
    let is = ap (λ k. seen_as k value counts.lexeme.text) counts.is in
    let begun = BeginsSet (sign kind.OpenParenthesis ∷ number value ∷ []) in
    unread_entered old one length refusal passes
    (unread_following (BeginsSet (sign kind.OpenParenthesis ∷ [])) begun one three counts.lexeme (number value) entered numbered length refusal (sym bar ∙ counts.next) is (λ count. refl)
    (λ front. begun_following (sign kind.OpenParenthesis ∷ []) (number value) counts.lexeme front is)
    (first_missing (IsStuck numbered) begun kind.CloseParenthesis three length refusal (begun_numbered value) IsStuck-numbered missing))

-- a sign is passed
sign_passed : (old new : List (Lexeme HoaKind)) (lexeme : Lexeme HoaKind) (symbol : ExpressionSymbol)
    → old ≡ lexeme ∷ new → expression_symbol_of lexeme ≡ symbol → Passed old (symbol ∷ []) new
sign_passed old new lexeme symbol next is = record { front = lexeme ∷ []; split = next; spells = ap (λ s. s ∷ []) is }

-- a set is passed after its `(`
barred_set : (old one two new : List (Lexeme HoaKind)) (negated : Bool) (set : ℕ)
    → Passed old (sign kind.OpenParenthesis ∷ []) one → IsBarred negated one two → Passed two (number set ∷ sign kind.CloseParenthesis ∷ []) new
    → PassesSet negated set old new
barred_set old one two new true set opens bar following =
    passed_then old one new _ _ opens
    (passed_then one two new _ _ (sign_passed one two bar.lexeme _ bar.next (ap (λ k. seen_as k bar.lexeme.value bar.lexeme.text) bar.is)) following)
barred_set old one two new false set opens bar following =
    passed_then old one new _ _ opens (subst (λ left. Passed left (number set ∷ sign kind.CloseParenthesis ∷ []) new) bar following)

-- a set is passed with its parentheses
pub PassesSet-of : (old one two three new : List (Lexeme HoaKind)) (negated : Bool) (set : ℕ)
    → PassesOne kind.OpenParenthesis old one → IsBarred negated one two → PassesNumber set two three → PassesOne kind.CloseParenthesis three new
    → PassesSet negated set old new
PassesSet-of old one two three new negated set opens bar counts closes =
    let open_passed : Passed old (sign kind.OpenParenthesis ∷ []) one = sign_passed old one opens.lexeme _ opens.next (ap (λ k. seen_as k opens.lexeme.value opens.lexeme.text) opens.is) in
    let set_passed : Passed two (number set ∷ []) three = sign_passed two three counts.lexeme _ counts.next (ap (λ k. seen_as k counts.lexeme.value counts.lexeme.text) counts.is ∙ ap number counts.value_is) in
    let close_passed : Passed three (sign kind.CloseParenthesis ∷ []) new = sign_passed three new closes.lexeme _ closes.next (ap (λ k. seen_as k closes.lexeme.value closes.lexeme.text) closes.is) in
    let following : Passed two (number set ∷ sign kind.CloseParenthesis ∷ []) new = passed_then two three new _ _ set_passed close_passed in
    barred_set old one two new negated set open_passed bar following

-- fewer tokens are left after a set
pub PassesSet-shorter : (negated : Bool) (set : ℕ) (old new : List (Lexeme HoaKind)) → PassesSet negated set old new → length new < length old
PassesSet-shorter negated set old new passes =
    omega (arith, ap length passes.split, length-append passes.front new, sym (length-map passes.front expression_symbol_of) ∙ ap length passes.spells)
