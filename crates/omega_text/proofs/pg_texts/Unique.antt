-- At most one thing follows a place of a game text.
use Rattle.std.proofs.Common.{◌≡◌, ℕ, ◌-◌, ◌<◌, ◌≤◌, ◌⊎◌, ⊎_elim, true, false, List, length, get_or, take, drop, refl, sym, ap, ◌∙◌, subst, arith, if◌then◌else◌, ◌==◌}
use Rattle.std.proofs.lemmas.Bool.Decides.{nat_tests}
use Rattle.std.proofs.lemmas.Fmt.{decimal_injective}
use Rattle.std.proofs.lemmas.List.{get_or-drop}
use Rattle.std.proofs.str.Laws.{order}
use Rattle.omega_text.specs.Bytes.{is_digit, is_letter, is_white}
use Rattle.omega_text.specs.pg.Cut.{BeginsWith, Follows, IsGap}
use Rattle.omega_text.specs.Limits.{most_number}
use Rattle.omega_text.specs.declared.refusal.text.TextFault.{TextFault}
use Rattle.omega_text.specs.declared.refusal.text.TextFault.TheVariants.{Lex, Number as NumberFault, Syntax, TooLong}
use Rattle.omega_text.specs.declared.pg.kind.PgKind.{PgKind}
use Rattle.omega_text.specs.declared.pg.kind.PgKind.TheVariants.{Comma, Name, Number, Parity, ParitySol, Semicolon}
use Rattle.omega_text.specs.pg.Fault.{BeginsNoForm, BeginsWrongDigits, BeginsWrongWord, HasFaultFrom, IsFaultOf}
use Rattle.omega_text.specs.Forms.{IsDigits, IsWord}
use Rattle.omega_text.specs.pg.Forms.{IsForm, IsLongest, IsNoToken, Spells}
use Rattle.omega_text.specs.Lexeme.{Lexeme}
use Rattle.omega_text.proofs.pg_texts.Classes.{both_ways, digit_range, letter_range}
use Rattle.omega_text.proofs.pg_texts.Longest.{form_head, head, head-take}
use Rattle.omega_text.proofs.pg_texts.Numbers.{decimal_digits}

-- digits and letters are not white
digit_black : (byte : ℕ) → is_digit byte ≡ true → is_white byte ≡ false
digit_black byte digit = grind (arith, nat_tests)

letter_black : (byte : ℕ) → is_letter byte ≡ true → is_white byte ≡ false
letter_black byte letter = grind (arith, nat_tests)

-- no form begins with white space
pub form_black : (text : List ℕ) → IsForm text → is_white (head text) ≡ false
form_black text form = ⊎_elim
    (⊎_elim
    (⊎_elim (digit_black (head text)) (letter_black (head text)))
    (⊎_elim (λ semicolon. ap is_white semicolon) (λ comma. ap is_white comma)))
    (λ quote. ap is_white quote)
    (form_head text form).1

-- bytes have at most one longest form
pub one_longest : (bytes : List ℕ) (one other : ℕ) → IsLongest bytes one → IsLongest bytes other → one ≡ other
one_longest bytes one other first second = ⊎_elim
    (λ below. absurd (first.longest other below second.within second.form))
    (λ above. ⊎_elim (λ below. absurd (second.longest one below first.within first.form)) (λ same. omega arith) (order other one))
    (order one other)

-- at this place the text goes on, and not with white space
pub record IsBlack (source : List ℕ) (place : ℕ) : Type 0 where
  pub inside : place < length source
  pub black : is_white (get_or source place 0) ≡ false

-- a gap does not go past a black byte
pub gap_stops : (source : List ℕ) (from to place : ℕ) → IsGap source from to → from ≤ place → IsBlack source place → to ≤ place
gap_stops source from to place gap following black = ⊎_elim
    (λ past. absurd (both_ways _ (gap.white place 0 following past) black.black))
    (λ before. before)
    (order place to)

-- two gaps from one place to black bytes are the same
pub one_gap : (source : List ℕ) (from one other : ℕ) → IsGap source from one → IsGap source from other → IsBlack source one → IsBlack source other → one ≡ other
one_gap source from one other first second black dark =
    let below = gap_stops source from one other first second.forward dark in
    let above = gap_stops source from other one second first.forward black in
    omega arith

-- where a token begins the text is black
pub token_black : (source : List ℕ) (from : ℕ) (lexeme : Lexeme PgKind) → Follows source from lexeme → IsBlack source lexeme.span.start
token_black source from lexeme follows =
    let bytes = drop lexeme.span.start source in
    let count = lexeme.span.end - lexeme.span.start in
    let same = head-take count bytes (omega (arith, follows.token.nonempty)) ∙ get_or-drop lexeme.span.start source 0 0 in
    record {
      inside = omega (arith, follows.token.nonempty, follows.within);
      black = sym (ap is_white (same ∙ ap (λ n. get_or source n 0) (omega arith))) ∙ form_black (take count bytes) follows.token.longest.form;
    }

-- the one kind of a token's text
kind_at : List ℕ → PgKind
kind_at text = if is_digit (head text) then Number
    else (if head text == 34 then Name
    else (if head text == 59 then Semicolon
    else (if head text == 44 then Comma
    else (if length text == 6 then Parity else ParitySol))))

spelled_kind : (kind : PgKind) (value : ℕ) (text : List ℕ) → Spells kind value text → kind_at text ≡ kind
unfolding kind_at
spelled_kind Number value text spells =
    let digits = decimal_digits value in
    let digit : is_digit (head text) ≡ true = ap (λ t. is_digit (head t)) spells.1 ∙ digits.1 0 0 digits.0 in
    rw digit refl
spelled_kind Parity value text spells = ap kind_at spells.1
spelled_kind ParitySol value text spells = ap kind_at spells.1
spelled_kind Semicolon value text spells = ap kind_at spells.1
spelled_kind Comma value text spells = ap kind_at spells.1
spelled_kind Name value text spells = ap kind_at spells.1.1

-- the one value of a token's text of a kind
spelled_value : (kind : PgKind) (value another : ℕ) (text : List ℕ) → Spells kind value text → Spells kind another text → (value ≡ another) × (value ≤ most_number)
spelled_value Number value another text first second = (decimal_injective value another (omega (arith, first.0)) (omega (arith, second.0)) (sym first.1 ∙ second.1), first.0)
spelled_value Parity value another text first second = (first.0 ∙ sym second.0, omega (arith, first.0))
spelled_value ParitySol value another text first second = (first.0 ∙ sym second.0, omega (arith, first.0))
spelled_value Semicolon value another text first second = (first.0 ∙ sym second.0, omega (arith, first.0))
spelled_value Comma value another text first second = (first.0 ∙ sym second.0, omega (arith, first.0))
spelled_value Name value another text first second = (first.0 ∙ sym second.0, omega (arith, first.0))

-- a text is a token of at most one kind and value
pub one_spelling : (text : List ℕ) (one other : PgKind) (value another : ℕ) → Spells one value text → Spells other another text → (one ≡ other) × (value ≡ another) × (value ≤ most_number)
one_spelling text one other value another first second =
    let same : one ≡ other = sym (spelled_kind one value text first) ∙ spelled_kind other another text second in
    let values = spelled_value other value another text (subst (λ kind. Spells kind value text) same first) second in
    (same, values.0, values.1)

-- lexemes are equal if their parts are
lexeme_same : (one other : Lexeme PgKind) → one.kind ≡ other.kind → one.text ≡ other.text → one.value ≡ other.value → one.span.start ≡ other.span.start → one.span.end ≡ other.span.end → one ≡ other
lexeme_same one other kind text value start end = λ i. record { kind = kind i; text = text i; value = value i; span = record { start = start i; end = end i } }

-- at most one token follows a place
pub one_follows : (source : List ℕ) (from : ℕ) (one other : Lexeme PgKind) → Follows source from one → Follows source from other → one ≡ other
one_follows source from one other first second =
    let start = one_gap source from one.span.start other.span.start first.gap second.gap (token_black source from one first) (token_black source from other second) in
    let count = one_longest (drop other.span.start source) (one.span.end - one.span.start) (other.span.end - other.span.start)
    (subst (λ place. IsLongest (drop place source) (one.span.end - one.span.start)) start first.token.longest) second.token.longest in
    let text : one.text ≡ other.text = first.token.text ∙ (λ i. take (count i) (drop (start i) source)) ∙ sym second.token.text in
    let spelling = one_spelling other.text one.kind other.kind one.value other.value (subst (Spells one.kind one.value) text first.token.spells) second.token.spells in
    lexeme_same one other spelling.0 text spelling.1 start (omega (arith, first.token.nonempty, second.token.nonempty))

-- a word is not digits
word_no_digits : (text : List ℕ) → IsWord text → IsDigits text → ⊥
word_no_digits text word digits =
    let letter = letter_range (head text) word.1 in
    let digit = digit_range (head text) (digits.1 0 0 digits.0) in
    omega arith

-- bytes do not begin with a wrong word and with wrong digits
not_two_wrongs : (bytes : List ℕ) → BeginsNoForm bytes ⊎ BeginsWrongWord bytes → BeginsWrongDigits bytes → ⊥
not_two_wrongs bytes lex digits = ⊎_elim
    (λ none. none digits.count digits.longest.form)
    (λ word. word_no_digits (take digits.count bytes) (subst (λ n. IsWord (take n bytes)) (one_longest bytes word.count digits.count word.longest digits.longest) word.word) digits.digits)
    lex

-- bytes have at most one fault
one_fault_of : (bytes : List ℕ) (place : ℕ) (one other : TextFault) → IsFaultOf bytes place one → IsFaultOf bytes place other → one ≡ other
one_fault_of bytes place (Lex at) (Lex there) first second = ap Lex (first.0 ∙ sym second.0)
one_fault_of bytes place (Lex at) (NumberFault there) first second = absurd (not_two_wrongs bytes first.1 second.1)
one_fault_of bytes place (NumberFault at) (Lex there) first second = absurd (not_two_wrongs bytes second.1 first.1)
one_fault_of bytes place (NumberFault at) (NumberFault there) first second = ap NumberFault (first.0 ∙ sym second.0)
one_fault_of bytes place (Lex at) (Syntax there) first second = absurd second
one_fault_of bytes place (Lex at) TooLong first second = absurd second
one_fault_of bytes place (NumberFault at) (Syntax there) first second = absurd second
one_fault_of bytes place (NumberFault at) TooLong first second = absurd second
one_fault_of bytes place (Syntax at) other first second = absurd first
one_fault_of bytes place TooLong other first second = absurd first

-- a longest form that is no token is not the token that the bytes begin with
wrong_is_none : (bytes : List ℕ) (count : ℕ) (lexeme : Lexeme PgKind) → IsLongest bytes count → IsNoToken (take count bytes) → BeginsWith bytes lexeme → ⊥
wrong_is_none bytes count lexeme longest wrong begins =
    let same = one_longest bytes (lexeme.span.end - lexeme.span.start) count begins.longest longest in
    wrong lexeme.kind lexeme.value (subst (Spells lexeme.kind lexeme.value) (begins.text ∙ ap (λ n. take n bytes) same) begins.spells)

-- bytes that begin with a token have no fault
token_no_fault : (bytes : List ℕ) (place : ℕ) (lexeme : Lexeme PgKind) (fault : TextFault) → BeginsWith bytes lexeme → IsFaultOf bytes place fault → ⊥
token_no_fault bytes place lexeme (Lex at) begins fault = ⊎_elim
    (λ none. none (lexeme.span.end - lexeme.span.start) begins.longest.form)
    (λ word. wrong_is_none bytes word.count lexeme word.longest word.wrong begins)
    fault.1
token_no_fault bytes place lexeme (NumberFault at) begins fault = wrong_is_none bytes fault.1.count lexeme fault.1.longest fault.1.wrong begins
token_no_fault bytes place lexeme (Syntax at) begins fault = fault
token_no_fault bytes place lexeme TooLong begins fault = fault

-- where a fault is, the text is black
fault_black : (source : List ℕ) (from : ℕ) (fault : TextFault) (faults : HasFaultFrom source from fault) → IsBlack source faults.place
fault_black source from fault faults = record { inside = faults.more; black = faults.black }

-- a place is followed by at most one fault
pub one_faults : (source : List ℕ) (from : ℕ) (one other : TextFault) → HasFaultFrom source from one → HasFaultFrom source from other → one ≡ other
one_faults source from one other first second =
    let place = one_gap source from first.place second.place first.gap second.gap (fault_black source from one first) (fault_black source from other second) in
    one_fault_of (drop second.place source) second.place one other (subst (λ n. IsFaultOf (drop n source) n one) place first.fault_there) second.fault_there

-- a place is not followed by a token and by a fault
pub token_or_fault : (source : List ℕ) (from : ℕ) (lexeme : Lexeme PgKind) (fault : TextFault) → Follows source from lexeme → HasFaultFrom source from fault → ⊥
token_or_fault source from lexeme fault follows faults =
    let place = one_gap source from lexeme.span.start faults.place follows.gap faults.gap (token_black source from lexeme follows) (fault_black source from fault faults) in
    token_no_fault (drop faults.place source) faults.place lexeme fault (subst (λ n. BeginsWith (drop n source) lexeme) place follows.token) faults.fault_there

-- a place that a token follows is not followed by white space to the end
pub token_or_end : (source : List ℕ) (from : ℕ) (lexeme : Lexeme PgKind) → Follows source from lexeme → IsGap source from (length source) → ⊥
token_or_end source from lexeme follows gap =
    let black = token_black source from lexeme follows in
    omega (arith, gap_stops source from (length source) lexeme.span.start gap follows.gap.forward black, black.inside)

-- a place that a fault follows is not followed by white space to the end
pub fault_or_end : (source : List ℕ) (from : ℕ) (fault : TextFault) → HasFaultFrom source from fault → IsGap source from (length source) → ⊥
fault_or_end source from fault faults gap =
    omega (arith, gap_stops source from (length source) faults.place gap faults.gap.forward (fault_black source from fault faults), faults.more)
