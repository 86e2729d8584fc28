-- At most one thing follows a place of a Hanoi text.
use Rattle.std.proofs.Common.{◌≡◌, ℕ, ◌+◌, ◌<◌, ⊎_elim, Option, Some, None, List, [], ◌∷◌, ◌++◌, length, drop, refl, sym, ap, ◌∙◌, subst, arith, append_assoc, append-nil, length-append}
use Rattle.omega_text.specs.Lexeme.{Lexeme}
use Rattle.omega_text.specs.declared.hoa.kind.HoaKind.{HoaKind}
use Rattle.omega_text.specs.declared.hoa.kind.HoaKind.TheVariants.{Int}
use Rattle.omega_text.specs.declared.refusal.text.TextFault.{TextFault}
use Rattle.omega_text.specs.declared.refusal.text.TextFault.TheVariants.{Lex, Number, Syntax, TooLong}
use Rattle.omega_text.specs.hoa.Cut.{Ends, Follows, IsGap, IsLongest}
use Rattle.omega_text.specs.hoa.Cut.IsGap.{blank, nothing}
use Rattle.omega_text.specs.hoa.Fault.{BeginsNoUnit, BeginsWrongDigits, HasFaultFrom, IsFaultOf}
use Rattle.omega_text.specs.hoa.Forms.{IsBlank, IsForm, IsUnit, Spells}
use Rattle.omega_text.proofs.hoa_texts.Longest.{blank_longest, fronts}
use Rattle.omega_text.proofs.hoa_texts.Numbers.{one_value, spelled_form}
use Rattle.omega_text.proofs.hoa_texts.Written.{unit_written}

-- a text is a unit of one sort
pub one_sort : (text : List ℕ) (one other : Option HoaKind) → IsUnit one text → IsUnit other text → one ≡ other
one_sort text one other first second = let reads = unit_written one text first in let again = unit_written other text second in cc

-- bytes begin with at most one longest unit
pub one_longest : (text rest other following : List ℕ) (sort another : Option HoaKind) → text ++ rest ≡ other ++ following
    → IsUnit sort text → IsUnit another other → IsLongest text rest → IsLongest other following
    → (text ≡ other) × (rest ≡ following) × (sort ≡ another)
one_longest text rest other following sort another split first second longest most = ⊎_elim
    (λ (more, is, left). first_over more is left)
    (λ (byte, more, is, left). absurd (longest (byte ∷ more) following another left (omega arith) (subst (IsUnit another) is second)))
    (fronts text rest other following split)
  where
    first_over : (more : List ℕ) → text ≡ other ++ more → following ≡ more ++ rest → (text ≡ other) × (rest ≡ following) × (sort ≡ another)
    first_over [] is left = let same = is ∙ append-nil other in (same, sym left, one_sort text sort another first (subst (IsUnit another) (sym same) second))
    first_over (byte ∷ more) is left = absurd (most (byte ∷ more) rest sort left (omega arith) (subst (IsUnit sort) is first))

-- bytes that begin with no part of a gap
abbrev pub EndsGap : List ℕ → Type 0
EndsGap bytes = (front following : List ℕ) → bytes ≡ front ++ following → IsBlank front → ⊥

-- a gap goes as far as it can in one way
pub one_gap : (one other bytes rest : List ℕ) → IsGap one → IsGap other → EndsGap bytes → EndsGap rest → one ++ bytes ≡ other ++ rest → (one ≡ other) × (bytes ≡ rest)
one_gap _ _ bytes rest nothing nothing first second same = (refl, same)
one_gap _ _ bytes rest nothing (blank text gap is following) first second same = absurd (first text (gap ++ rest) (same ∙ append_assoc text gap rest) is)
one_gap _ _ bytes rest (blank text gap is following) nothing first second same = absurd (second text (gap ++ bytes) (sym same ∙ append_assoc text gap bytes) is)
one_gap _ _ bytes rest (blank text gap is following) (blank other more also left) first second same =
    let units = one_longest text (gap ++ bytes) other (more ++ rest) None None (sym (append_assoc text gap bytes) ∙ same ∙ append_assoc other more rest)
    is also (blank_longest text (gap ++ bytes) is) (blank_longest other (more ++ rest) also) in
    let gaps = one_gap gap more bytes rest following left first second units.1 in
    ((λ i. units.0 i ++ gaps.0 i), gaps.1)

-- a longest token ends a gap
token_ends_gap : (kind : HoaKind) (text rest : List ℕ) → IsForm kind text → IsLongest text rest → EndsGap (text ++ rest)
token_ends_gap kind text rest form longest front following split is =
    let sorts = (one_longest text rest front following (Some kind) None split form is longest (blank_longest front following is)).2 in cc

-- a part of a gap is not empty
blank_some : (text : List ℕ) → IsBlank text → text ≡ [] → ⊥
blank_some text is none = ⊎_elim (λ (byte, same, white). cc) (λ (inside, same, closes). cc) is

-- the end of a text ends a gap
end_ends_gap : EndsGap []
end_ends_gap [] following split is = blank_some [] is refl
end_ends_gap (byte ∷ front) following split is = cc

-- what has a fault ends a gap
fault_ends_gap : (bytes : List ℕ) (place : ℕ) (fault : TextFault) → IsFaultOf bytes place fault → EndsGap bytes
fault_ends_gap bytes place (Lex at) faults = λ front following split is. faults.1.none front following None split is
fault_ends_gap bytes place (Number at) faults = subst EndsGap (sym faults.1.split) (token_ends_gap Int faults.1.text faults.1.rest faults.1.digits faults.1.longest)
fault_ends_gap bytes place (Syntax at) faults = absurd faults
fault_ends_gap bytes place TooLong faults = absurd faults

-- what follows ends a gap
follows_ends_gap : (source : List ℕ) (from : ℕ) (lexeme : Lexeme HoaKind) (follows : Follows source from lexeme) → EndsGap (lexeme.text ++ follows.rest)
follows_ends_gap source from lexeme follows = token_ends_gap lexeme.kind lexeme.text follows.rest (spelled_form lexeme.kind lexeme.value lexeme.text follows.spells) follows.longest

-- lexemes are equal if their parts are
lexeme_same : (one other : Lexeme HoaKind) → one.kind ≡ other.kind → one.text ≡ other.text → one.value ≡ other.value → one.span.start ≡ other.span.start → one.span.end ≡ other.span.end → one ≡ other
lexeme_same one other kind text value start end = λ i. record { kind = kind i; text = text i; value = value i; span = record { start = start i; end = end i } }

-- at most one token follows a place
pub one_follows : (source : List ℕ) (from : ℕ) (one other : Lexeme HoaKind) → Follows source from one → Follows source from other → one ≡ other
one_follows source from one other first second =
    let gaps = one_gap first.gap second.gap (one.text ++ first.rest) (other.text ++ second.rest) first.passed second.passed
    (follows_ends_gap source from one first) (follows_ends_gap source from other second) (sym first.split ∙ second.split) in
    let texts = one_longest one.text first.rest other.text second.rest (Some one.kind) (Some other.kind) gaps.1
    (spelled_form one.kind one.value one.text first.spells) (spelled_form other.kind other.value other.text second.spells) first.longest second.longest in
    let kinds : one.kind ≡ other.kind = let sorts = texts.2 in cc in
    let values = one_value other.kind one.value other.value other.text (subst (λ kind. Spells kind one.value other.text) kinds (subst (Spells one.kind one.value) texts.0 first.spells)) second.spells in
    let start : one.span.start ≡ other.span.start = first.start ∙ ap (λ gap. from + length gap) gaps.0 ∙ sym second.start in
    lexeme_same one other kinds texts.0 values start (first.end ∙ (λ i. start i + length (texts.0 i)) ∙ sym second.end)

-- bytes in which no unit begins, and bytes that begin with wrong digits
not_both : (bytes : List ℕ) → BeginsNoUnit bytes → BeginsWrongDigits bytes → ⊥
not_both bytes none digits = none.none digits.text digits.rest (Some Int) digits.split digits.digits

-- bytes have at most one fault
one_fault_of : (bytes : List ℕ) (place : ℕ) (one other : TextFault) → IsFaultOf bytes place one → IsFaultOf bytes place other → one ≡ other
one_fault_of bytes place (Lex at) (Lex there) first second = ap Lex (first.0 ∙ sym second.0)
one_fault_of bytes place (Number at) (Number there) first second = ap Number (first.0 ∙ sym second.0)
one_fault_of bytes place (Lex at) (Number there) first second = absurd (not_both bytes first.1 second.1)
one_fault_of bytes place (Number at) (Lex there) first second = absurd (not_both bytes second.1 first.1)
one_fault_of bytes place (Lex at) (Syntax there) first second = absurd second
one_fault_of bytes place (Lex at) TooLong first second = absurd second
one_fault_of bytes place (Number at) (Syntax there) first second = absurd second
one_fault_of bytes place (Number at) TooLong first second = absurd second
one_fault_of bytes place (Syntax at) other first second = absurd first
one_fault_of bytes place TooLong other first second = absurd first

-- a place is followed by at most one fault
pub one_faults : (source : List ℕ) (from : ℕ) (one other : TextFault) → HasFaultFrom source from one → HasFaultFrom source from other → one ≡ other
one_faults source from one other first second =
    let gaps = one_gap first.gap second.gap first.bytes second.bytes first.passed second.passed
    (fault_ends_gap first.bytes (from + length first.gap) one first.fault_there) (fault_ends_gap second.bytes (from + length second.gap) other second.fault_there) (sym first.split ∙ second.split) in
    one_fault_of second.bytes (from + length second.gap) one other (subst (λ bytes. IsFaultOf bytes (from + length second.gap) one) gaps.1 (subst (λ gap. IsFaultOf first.bytes (from + length gap) one) gaps.0 first.fault_there)) second.fault_there

-- bytes that begin with a token have no fault
token_no_fault : (text rest bytes : List ℕ) (kind : HoaKind) (value place : ℕ) (fault : TextFault) → text ++ rest ≡ bytes → Spells kind value text → IsLongest text rest → IsFaultOf bytes place fault → ⊥
token_no_fault text rest bytes kind value place (Lex at) split spells longest faults = faults.1.none text rest (Some kind) (sym split) (spelled_form kind value text spells)
token_no_fault text rest bytes kind value place (Number at) split spells longest faults =
    let units = one_longest text rest faults.1.text faults.1.rest (Some kind) (Some Int) (split ∙ faults.1.split) (spelled_form kind value text spells) faults.1.digits longest faults.1.longest in
    let kinds : kind ≡ Int = let sorts = units.2 in cc in
    faults.1.wrong value (subst (λ k. Spells k value faults.1.text) kinds (subst (Spells kind value) units.0 spells))
token_no_fault text rest bytes kind value place (Syntax at) split spells longest faults = faults
token_no_fault text rest bytes kind value place TooLong split spells longest faults = faults

-- a place is not followed by a token and by a fault
pub token_or_fault : (source : List ℕ) (from : ℕ) (lexeme : Lexeme HoaKind) (fault : TextFault) → Follows source from lexeme → HasFaultFrom source from fault → ⊥
token_or_fault source from lexeme fault follows faults =
    let gaps = one_gap follows.gap faults.gap (lexeme.text ++ follows.rest) faults.bytes follows.passed faults.passed
    (follows_ends_gap source from lexeme follows) (fault_ends_gap faults.bytes (from + length faults.gap) fault faults.fault_there) (sym follows.split ∙ faults.split) in
    token_no_fault lexeme.text follows.rest faults.bytes lexeme.kind lexeme.value (from + length faults.gap) fault gaps.1 follows.spells follows.longest faults.fault_there

-- a gap to the end, and a gap and bytes that end a gap
gap_to_end : (gap other bytes : List ℕ) → IsGap gap → IsGap other → EndsGap bytes → gap ≡ other ++ bytes → bytes ≡ []
gap_to_end gap other bytes whole front ends split = sym (one_gap gap other [] bytes whole front end_ends_gap ends (append-nil gap ∙ split)).1

-- a form is not empty
form_some : (kind : HoaKind) (text : List ℕ) → IsForm kind text → text ≡ [] → ⊥
form_some kind text form none = let reads = unit_written (Some kind) [] (subst (IsForm kind) none form) in cc

pub form_size : (kind : HoaKind) (text : List ℕ) → IsForm kind text → 0 < length text
form_size kind [] form = absurd (form_some kind [] form refl)
form_size kind (byte ∷ rest) form = omega arith

-- a place that a token follows is not followed by a gap to the end
pub token_or_end : (source : List ℕ) (from : ℕ) (lexeme : Lexeme HoaKind) → Follows source from lexeme → Ends source from → ⊥
token_or_end source from lexeme follows ends =
    let none = gap_to_end (drop from source) follows.gap (lexeme.text ++ follows.rest) ends.passed follows.passed (follows_ends_gap source from lexeme follows) follows.split in
    form_some lexeme.kind lexeme.text (spelled_form lexeme.kind lexeme.value lexeme.text follows.spells) (front_empty lexeme.text follows.rest none)
  where
    front_empty : (one other : List ℕ) → one ++ other ≡ [] → one ≡ []
    front_empty [] other none = refl
    front_empty (byte ∷ one) other none = absurd (cc)

-- there are bytes where a fault is
fault_some : (bytes : List ℕ) (place : ℕ) (fault : TextFault) → IsFaultOf bytes place fault → bytes ≡ [] → ⊥
fault_some bytes place (Lex at) faults none = omega (arith, faults.1.some, ap length none)
fault_some bytes place (Number at) faults none = omega (arith, faults.1.digits.0, ap length (sym faults.1.split ∙ none), length-append faults.1.text faults.1.rest)
fault_some bytes place (Syntax at) faults none = faults
fault_some bytes place TooLong faults none = faults

-- a place that a fault follows is not followed by a gap to the end
pub fault_or_end : (source : List ℕ) (from : ℕ) (fault : TextFault) → HasFaultFrom source from fault → Ends source from → ⊥
fault_or_end source from fault faults ends =
    fault_some faults.bytes (from + length faults.gap) fault faults.fault_there
    (gap_to_end (drop from source) faults.gap faults.bytes ends.passed faults.passed (fault_ends_gap faults.bytes (from + length faults.gap) fault faults.fault_there) faults.split)
