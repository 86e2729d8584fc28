-- Which texts are tokens: digits that are a number, and words.
use Rattle.std.proofs.Common.{◌≡◌, ◌≢◌, ℕ, zero, suc, ◌+◌, ◌-◌, ◌<◌, ◌*◌, ◌/◌, ◌%◌, ◌≤◌, ◌^◌, ⊎_elim, Bool, true, false, cond, eqb, List, [], ◌∷◌, length, get_or, take, refl, sym, subst, ap, ◌∙◌, arith, add-one, codes}
use Rattle.std.proofs.Math.Nat.{pow-suc}
use Rattle.std.proofs.lemmas.Fmt.{decimal_digit, decimal_is_IsNumeral, decimal-digits_value, first_decimal}
use Rattle.std.proofs.lemmas.Str.Parse.{IsNumeralModel, numerals_by_value, tells_by_index}
use Rattle.std.proofs.lemmas.Bool.Decides.{nat_tests}
use Rattle.std.proofs.lemmas.Int.Digits.{digits_value_more}
use Rattle.std.proofs.lemmas.List.Sums.{prefix_len_is}
use Rattle.std.proofs.lemmas.List.Elements.{All-cons, All-nil}
use Rattle.std.proofs.str.Laws.{order}
use Rattle.std.specs.Char.{digit_value}
use Rattle.std.specs.Fmt.{decimal, digit_glyph, digits, digits_onto}
use Rattle.std.specs.Int.{IsInRange}
use Rattle.std.specs.List.{AllPass, prefix_len}
use Rattle.std.specs.Str.Parse.{digits_value}
use Rattle.omega_text.specs.Bytes.{is_digit}
use Rattle.omega_text.specs.Limits.{most_number}
use Rattle.omega_text.specs.declared.pg.kind.PgKind.TheVariants.{Comma, Name, Number, Parity, ParitySol, Semicolon}
use Rattle.omega_text.specs.Forms.{IsDigits, IsWord}
use Rattle.omega_text.specs.pg.Forms.{IsNoToken}
use Rattle.omega_text.proofs.pg_texts.Classes.{digit_range, letter_range}
use Rattle.omega_text.proofs.pg_texts.Longest.{head}

-- each byte is a digit
abbrev AllDigits : List ℕ → Type 0
AllDigits text = (i : ℕ) → i < length text → IsInRange 48 57 (get_or text i 0)

-- digits and their value, as std reads them
digits_model : IsNumeralModel AllDigits (digits_value 10)
digits_model = numerals_by_value AllDigits tells_by_index

-- the last digit of a number, as a byte, is a digit
digit_byte : (n : ℕ) → is_digit (digit_glyph false (n % 10)) ≡ true
digit_byte n = let low : n % 10 < 10 = omega arith in grind (arith, nat_tests)

-- one of two digit lists is digits if both are
either_digits : (test : Bool) (one other : List ℕ) → IsDigits one → IsDigits other → IsDigits (cond test one other)
either_digits true one other first second = first
either_digits false one other first second = second

-- a digit in front of digits, or of nothing, makes digits
digit_more : (n : ℕ) (following : List ℕ) → AllPass is_digit following → IsDigits (digit_glyph false (n % 10) ∷ following)
digit_more n following all = (omega arith, All-cons (λ byte. is_digit byte ≡ true) (digit_glyph false (n % 10)) following (digit_byte n) all)

-- the digits of a number in front of digits are digits
digits_more : (left n : ℕ) (following : List ℕ) → IsDigits following → IsDigits (digits_onto left 10 false n following)
digits_more zero n following digits = digits
digits_more (suc left) n following digits =
    let more = digit_more n following digits.1 in
    either_digits (eqb (n / 10) 0) _ _ more (digits_more left (n / 10) (digit_glyph false (n % 10) ∷ following) more)

-- a number has digits
some_digits : (left n : ℕ) → IsDigits (digits_onto (suc left) 10 false n [])
some_digits left n =
    let one = digit_more n [] (All-nil (λ byte. is_digit byte ≡ true)) in
    either_digits (eqb (n / 10) 0) _ _ one (digits_more left (n / 10) (digit_glyph false (n % 10) ∷ []) one)

-- a numeral is digits
pub decimal_digits : (n : ℕ) → IsDigits (decimal n)
unfolding digits
decimal_digits n = some_digits 63 n

-- digits are the numeral of their value, if they are `0` or begin with 1 to 9
pub decimal_value : (text : List ℕ) → IsDigits text → (head text ≡ 48 → length text ≡ 1) → digits_value 10 text < 2 ^ 64 → text ≡ decimal (digits_value 10 text)
decimal_value text digits plain small =
    sym (decimal-digits_value digits_model text (λ i inside. digit_range (get_or text i 0) (digits.1 i 0 inside)) digits.0 plain small)

-- digits that are no numeral of a number are no token
pub wrong_digits : (text : List ℕ) → IsDigits text → ((value : ℕ) → value ≤ most_number → text ≡ decimal value → ⊥) → IsNoToken text
wrong_digits text digits wrong Number value spells = wrong value spells.0 spells.1
wrong_digits text digits wrong Parity value spells = let range = digit_range (head text) (digits.1 0 0 digits.0) in omega (arith, ap head spells.1)
wrong_digits text digits wrong ParitySol value spells = let range = digit_range (head text) (digits.1 0 0 digits.0) in omega (arith, ap head spells.1)
wrong_digits text digits wrong Semicolon value spells = let range = digit_range (head text) (digits.1 0 0 digits.0) in omega (arith, ap head spells.1)
wrong_digits text digits wrong Comma value spells = let range = digit_range (head text) (digits.1 0 0 digits.0) in omega (arith, ap head spells.1)
wrong_digits text digits wrong Name value spells = let range = digit_range (head text) (digits.1 0 0 digits.0) in omega (arith, ap head spells.1.1)

-- digits with a needless zero are no token
pub needless_zero : (text : List ℕ) → IsDigits text → head text ≡ 48 → 1 < length text → IsNoToken text
needless_zero text digits zero_first long = wrong_digits text digits (λ value small is.
    ⊎_elim
    (λ positive. let first = first_decimal value positive (omega arith) in omega (arith, ap head is))
    (λ none. let zero_value : value ≡ 0 = omega arith in
    omega (arith, ap length (is ∙ ap decimal zero_value ∙ decimal_digit 0 (omega arith))))
    (order 0 value))

-- digits with too great a value are no token
pub too_great : (text : List ℕ) → IsDigits text → most_number < digits_value 10 text → IsNoToken text
too_great text digits great = wrong_digits text digits (λ value small is.
    omega (arith, ap (digits_value 10) is, (decimal_is_IsNumeral value (omega arith)).1))

-- a word that is neither `parity` nor `paritysol` is no token
pub wrong_word : (text : List ℕ) → IsWord text → text ≢ codes "parity" → text ≢ codes "paritysol" → IsNoToken text
wrong_word text word other another Number value spells =
    let range = letter_range (head text) word.1 in
    let digits = decimal_digits value in
    let first = digit_range (head (decimal value)) (digits.1 0 0 digits.0) in
    omega (arith, ap head spells.1)
wrong_word text word other another Parity value spells = other spells.1
wrong_word text word other another ParitySol value spells = another spells.1
wrong_word text word other another Semicolon value spells = let range = letter_range (head text) word.1 in omega (arith, ap head spells.1)
wrong_word text word other another Comma value spells = let range = letter_range (head text) word.1 in omega (arith, ap head spells.1)
wrong_word text word other another Name value spells = let range = letter_range (head text) word.1 in omega (arith, ap head spells.1.1)

-- what a digit is worth
digit_worth : (byte : ℕ) → is_digit byte ≡ true → digit_value byte ≡ byte - 48
digit_worth byte digit = grind (arith, nat_tests)

-- the value of digits with one more
pub value_more : (text : List ℕ) (i value worth : ℕ) → i < length text → is_digit (get_or text i 0) ≡ true → value ≡ digits_value 10 (take i text) → worth ≡ get_or text i 0 - 48 → value * 10 + worth ≡ digits_value 10 (take (i + 1) text)
value_more text i value worth inside digit so_far is =
    omega (arith, digits_value_more 10 text i inside, digit_worth (get_or text i 0) digit)

-- the value of digits with one more is no less
pub value_no_less : (text : List ℕ) (i : ℕ) → i < length text → digits_value 10 (take i text) ≤ digits_value 10 (take (i + 1) text)
value_no_less text i inside = omega (arith, digits_value_more 10 text i inside)

-- a digit is worth at most nine
pub worth_small : (byte : ℕ) → is_digit byte ≡ true → byte - 48 ≤ 9
worth_small byte digit = grind (arith, nat_tests)

-- if one digit follows, it is all that is counted
pub one_counted : (bytes : List ℕ) → is_digit (get_or bytes 0 0) ≡ true → 1 < length bytes → is_digit (get_or bytes 1 0) ≡ false → prefix_len is_digit bytes ≡ 1
one_counted bytes digit long other =
    prefix_len_is is_digit bytes 1 0 (omega arith) (λ k below. let first : 0 ≡ k = omega arith in subst (λ at. is_digit (get_or bytes at 0) ≡ true) first digit) (λ inside. other)

-- and this is its value
pub one_value : (bytes : List ℕ) (worth : ℕ) → 0 < length bytes → is_digit (get_or bytes 0 0) ≡ true → worth ≡ get_or bytes 0 0 - 48 → worth ≡ digits_value 10 (take 1 bytes)
one_value bytes worth some digit is = let more = value_more bytes 0 0 worth some digit refl is in omega (arith, more)

-- with each digit values may be ten times as great
pub power_more : (count : ℕ) → 10 ^ (count + 1) ≡ 10 ^ count * 10
power_more count = ap (λ n. 10 ^ n) (add-one count) ∙ pow-suc 10 count

-- digits at the front, whose value is that of a number and which have no needless zero, are its numeral
pub front_value : (text : List ℕ) (value : ℕ) → IsDigits text → (head text ≡ 48 → length text ≤ 1) → value ≡ digits_value 10 text → value ≤ most_number → text ≡ decimal value
front_value text value digits plain is small =
    decimal_value text digits (λ zero_first. omega (arith, plain zero_first, digits.0)) (omega arith) ∙ ap decimal (sym is)
