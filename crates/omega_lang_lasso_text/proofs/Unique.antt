-- At most one thing follows a place of a lasso text.
use Rattle.std.proofs.Common.{◌≡◌, ℕ, ◌-◌, ◌⊎◌, ⊎_elim, true, List, length, get_or, take, drop, refl, sym, ap, ◌∙◌, subst, arith, if◌then◌else◌, ◌==◌}
use Rattle.std.proofs.lemmas.Fmt.{decimal_injective}
use Rattle.std.proofs.lemmas.List.{get_or-drop}
use Rattle.omega_text.specs.Bytes.{is_digit, is_white}
use Rattle.omega_text.specs.Forms.{IsDigits}
use Rattle.omega_text.specs.Lexeme.{Lexeme}
use Rattle.omega_text.specs.declared.refusal.text.TextFault.{TextFault}
use Rattle.omega_text.specs.declared.refusal.text.TextFault.TheVariants.{Lex, Number as NumberFault, Syntax, TooLong}
use Rattle.omega_text.specs.declared.pg.kind.PgKind.TheVariants.{Number as PgNumber}
use Rattle.omega_text.specs.pg.Cut.{IsGap}
use Rattle.omega_text.specs.pg.Fault.{BeginsNoForm, BeginsWrongDigits}
use Rattle.omega_text.specs.pg.Forms.{IsLongest}
use Rattle.omega_text.proofs.pg_texts.Classes.{digit_range}
use Rattle.omega_text.proofs.pg_texts.Longest.{head, head-take}
use Rattle.omega_text.proofs.pg_texts.Numbers.{decimal_digits}
use Rattle.omega_text.proofs.pg_texts.Unique.{IsBlack, form_black, gap_stops, one_gap, one_longest}
use Rattle.omega_lang_lasso_text.specs.Cut.{BeginsWith, Follows}
use Rattle.omega_lang_lasso_text.specs.Fault.{BeginsOther, HasFaultFrom, IsFaultOf}
use Rattle.omega_lang_lasso_text.specs.Tokens.{Spells}
use Rattle.omega_lang_lasso_text.specs.declared.kind.LassoKind.{LassoKind}
use Rattle.omega_lang_lasso_text.specs.declared.kind.LassoKind.TheVariants.{Cycle, Number, Stem}

-- the text is black at a token's beginning
pub token_black : (source : List ℕ) (from : ℕ) (lexeme : Lexeme LassoKind) → Follows source from lexeme → IsBlack source lexeme.span.start
token_black source from lexeme follows =
    let bytes = drop lexeme.span.start source in
    let count = lexeme.span.end - lexeme.span.start in
    let same = head-take count bytes (omega (arith, follows.token.nonempty)) ∙ get_or-drop lexeme.span.start source 0 0 in
    record {
      inside = omega (arith, follows.token.nonempty, follows.within);
      black = sym (ap is_white (same ∙ ap (λ n. get_or source n 0) (omega arith))) ∙ form_black (take count bytes) follows.token.longest.form;
    }

-- the one kind of a token's text
kind_at : List ℕ → LassoKind
kind_at text = if is_digit (head text) then Number else (if head text == 115 then Stem else Cycle)

spelled_kind : (kind : LassoKind) (value : ℕ) (text : List ℕ) → Spells kind value text → kind_at text ≡ kind
unfolding kind_at
spelled_kind Number value text spells =
    let digits = decimal_digits value in
    let digit : is_digit (head text) ≡ true = ap (λ t. is_digit (head t)) spells.1 ∙ digits.1 0 0 digits.0 in
    rw digit refl
spelled_kind Stem value text spells = ap kind_at spells.1
spelled_kind Cycle value text spells = ap kind_at spells.1

-- the one value of a token's text of a kind
spelled_value : (kind : LassoKind) (value another : ℕ) (text : List ℕ) → Spells kind value text → Spells kind another text → value ≡ another
spelled_value Number value another text first second = decimal_injective value another (omega (arith, first.0)) (omega (arith, second.0)) (sym first.1 ∙ second.1)
spelled_value Stem value another text first second = first.0 ∙ sym second.0
spelled_value Cycle value another text first second = first.0 ∙ sym second.0

-- a text is a token of at most one kind and value
one_spelling : (text : List ℕ) (one other : LassoKind) (value another : ℕ) → Spells one value text → Spells other another text → (one ≡ other) × (value ≡ another)
one_spelling text one other value another first second =
    let same : one ≡ other = sym (spelled_kind one value text first) ∙ spelled_kind other another text second in
    (same, spelled_value other value another text (subst (λ kind. Spells kind value text) same first) second)

-- lexemes are equal if their parts are
lexeme_same : (one other : Lexeme LassoKind) → one.kind ≡ other.kind → one.text ≡ other.text → one.value ≡ other.value → one.span.start ≡ other.span.start → one.span.end ≡ other.span.end → one ≡ other
lexeme_same one other kind text value start end = λ i. record { kind = kind i; text = text i; value = value i; span = record { start = start i; end = end i } }

-- at most one token follows a place
pub one_follows : (source : List ℕ) (from : ℕ) (one other : Lexeme LassoKind) → Follows source from one → Follows source from other → one ≡ other
one_follows source from one other first second =
    let start = one_gap source from one.span.start other.span.start first.gap second.gap (token_black source from one first) (token_black source from other second) in
    let count = one_longest (drop other.span.start source) (one.span.end - one.span.start) (other.span.end - other.span.start)
    (subst (λ place. IsLongest (drop place source) (one.span.end - one.span.start)) start first.token.longest) second.token.longest in
    let text : one.text ≡ other.text = first.token.text ∙ (λ i. take (count i) (drop (start i) source)) ∙ sym second.token.text in
    let spelling = one_spelling other.text one.kind other.kind one.value other.value (subst (Spells one.kind one.value) text first.token.spells) second.token.spells in
    lexeme_same one other spelling.0 text spelling.1 start (omega (arith, first.token.nonempty, second.token.nonempty))

-- bytes do not begin with another form and with wrong digits
not_two_wrongs : (bytes : List ℕ) → BeginsNoForm bytes ⊎ BeginsOther bytes → BeginsWrongDigits bytes → ⊥
not_two_wrongs bytes lex digits = ⊎_elim
    (λ none. none digits.count digits.longest.form)
    (λ other. other.no_digits (subst (λ n. IsDigits (take n bytes)) (one_longest bytes digits.count other.count digits.longest other.longest) digits.digits))
    lex

-- bytes have at most one fault
one_fault_of : (bytes : List ℕ) (place : ℕ) (one other : TextFault) → IsFaultOf bytes place one → IsFaultOf bytes place other → one ≡ other
one_fault_of bytes place (Lex at) (Lex there) first second = ap Lex (first.0 ∙ sym second.0)
one_fault_of bytes place (Lex at) (NumberFault there) first second = absurd (not_two_wrongs bytes first.1 second.1)
one_fault_of bytes place (NumberFault at) (Lex there) first second = absurd (not_two_wrongs bytes second.1 first.1)
one_fault_of bytes place (NumberFault at) (NumberFault there) first second = ap NumberFault (first.0 ∙ sym second.0)
one_fault_of bytes place (Lex at) (Syntax there) first second = absurd second
one_fault_of bytes place (Lex at) TooLong first second = absurd second
one_fault_of bytes place (NumberFault at) (Syntax there) first second = absurd second
one_fault_of bytes place (NumberFault at) TooLong first second = absurd second
one_fault_of bytes place (Syntax at) other first second = absurd first
one_fault_of bytes place TooLong other first second = absurd first

-- a text that is spelled is not another form
spelled_no_other : (kind : LassoKind) (value : ℕ) (bytes : List ℕ) (other : BeginsOther bytes) → Spells kind value (take other.count bytes) → ⊥
spelled_no_other Number value bytes other spells = other.no_digits (subst IsDigits (sym spells.1) (decimal_digits value))
spelled_no_other Stem value bytes other spells = other.no_stem spells.1
spelled_no_other Cycle value bytes other spells = other.no_cycle spells.1

-- nor wrong digits
spelled_no_wrong : (kind : LassoKind) (value : ℕ) (bytes : List ℕ) (wrong : BeginsWrongDigits bytes) → Spells kind value (take wrong.count bytes) → ⊥
spelled_no_wrong Number value bytes wrong spells = wrong.wrong PgNumber value spells
spelled_no_wrong Stem value bytes wrong spells = let range = digit_range (head (take wrong.count bytes)) (wrong.digits.1 0 0 wrong.digits.0) in omega (arith, ap head spells.1)
spelled_no_wrong Cycle value bytes wrong spells = let range = digit_range (head (take wrong.count bytes)) (wrong.digits.1 0 0 wrong.digits.0) in omega (arith, ap head spells.1)

-- the token that bytes begin with is their one longest form
spelled_longest : (bytes : List ℕ) (count : ℕ) (lexeme : Lexeme LassoKind) → IsLongest bytes count → BeginsWith bytes lexeme → Spells lexeme.kind lexeme.value (take count bytes)
spelled_longest bytes count lexeme longest begins =
    let same = one_longest bytes (lexeme.span.end - lexeme.span.start) count begins.longest longest in
    subst (Spells lexeme.kind lexeme.value) (begins.text ∙ ap (λ n. take n bytes) same) begins.spells

-- bytes that begin with a token have no fault
token_no_fault : (bytes : List ℕ) (place : ℕ) (lexeme : Lexeme LassoKind) (fault : TextFault) → BeginsWith bytes lexeme → IsFaultOf bytes place fault → ⊥
token_no_fault bytes place lexeme (Lex at) begins fault = ⊎_elim
    (λ none. none (lexeme.span.end - lexeme.span.start) begins.longest.form)
    (λ other. spelled_no_other lexeme.kind lexeme.value bytes other (spelled_longest bytes other.count lexeme other.longest begins))
    fault.1
token_no_fault bytes place lexeme (NumberFault at) begins fault =
    spelled_no_wrong lexeme.kind lexeme.value bytes fault.1 (spelled_longest bytes fault.1.count lexeme fault.1.longest begins)
token_no_fault bytes place lexeme (Syntax at) begins fault = fault
token_no_fault bytes place lexeme TooLong begins fault = fault

-- the text is black at a fault
fault_black : (source : List ℕ) (from : ℕ) (fault : TextFault) (faults : HasFaultFrom source from fault) → IsBlack source faults.place
fault_black source from fault faults = record { inside = faults.more; black = faults.black }

-- a place is followed by at most one fault
pub one_faults : (source : List ℕ) (from : ℕ) (one other : TextFault) → HasFaultFrom source from one → HasFaultFrom source from other → one ≡ other
one_faults source from one other first second =
    let place = one_gap source from first.place second.place first.gap second.gap (fault_black source from one first) (fault_black source from other second) in
    one_fault_of (drop second.place source) second.place one other (subst (λ n. IsFaultOf (drop n source) n one) place first.fault_there) second.fault_there

-- a place is not followed by a token and by a fault
pub token_or_fault : (source : List ℕ) (from : ℕ) (lexeme : Lexeme LassoKind) (fault : TextFault) → Follows source from lexeme → HasFaultFrom source from fault → ⊥
token_or_fault source from lexeme fault follows faults =
    let place = one_gap source from lexeme.span.start faults.place follows.gap faults.gap (token_black source from lexeme follows) (fault_black source from fault faults) in
    token_no_fault (drop faults.place source) faults.place lexeme fault (subst (λ n. BeginsWith (drop n source) lexeme) place follows.token) faults.fault_there

-- a place that a token follows is not followed by white space to the end
pub token_or_end : (source : List ℕ) (from : ℕ) (lexeme : Lexeme LassoKind) → Follows source from lexeme → IsGap source from (length source) → ⊥
token_or_end source from lexeme follows gap =
    let black = token_black source from lexeme follows in
    omega (arith, gap_stops source from (length source) lexeme.span.start gap follows.gap.forward black, black.inside)

-- a place that a fault follows is not followed by white space to the end
pub fault_or_end : (source : List ℕ) (from : ℕ) (fault : TextFault) → HasFaultFrom source from fault → IsGap source from (length source) → ⊥
fault_or_end source from fault faults gap =
    omega (arith, gap_stops source from (length source) faults.place gap faults.gap.forward (fault_black source from fault faults), faults.more)
