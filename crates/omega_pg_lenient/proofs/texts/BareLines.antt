-- Bytes of lines, one by one, and numbers: they stay, and numbers are counted.
use Rattle.std.proofs.Common.{◌≡◌, ℕ, zero, suc, ◌+◌, ◌≤◌, ◌⊎◌, inl, inr, Bool, true, false, List, [], ◌∷◌, ◌++◌, get_or, min, refl, ap, sym, ◌∙◌, arith, append_assoc}
use Rattle.std.specs.Prelude.{◌==◌, ◌&&◌, ◌||◌, if◌then◌else◌}
use Rattle.std.specs.List.{AllPass}
use Rattle.std.proofs.lemmas.Bool.{cases_lt, eqb-true, le-ltb, lt-ltb, ne_eqb}
use Rattle.std.proofs.lemmas.List.Elements.{All-head, All-tail}
use Rattle.omega_text.specs.Bytes.{is_digit, is_white}
use Rattle.omega_pg_lenient.specs.SolutionLines.{after_quote, bare_from, counted, is_no_choice, place_after, place_in_line, shown_in_line}
use Rattle.omega_pg_lenient.specs.SolutionParts.{AreNumbers, IsWhiteSpace}
use Rattle.omega_pg_lenient.specs.declared.line_place.LineContext.{LineContext}
use Rattle.omega_pg_lenient.specs.declared.line_place.LineContext.TheVariants.{Between, Choice, Number}
use Rattle.omega_pg_lenient.specs.declared.line_place.LinePlace.{LinePlace}

-- ---- tests of bytes

either : (a b : Bool) → (a || b) ≡ true → (a ≡ true) ⊎ (b ≡ true)
either true b e = inl refl
either false b e = inr e

-- a white byte is not one that is not white
pub white_apart : (byte other : ℕ) → is_white other ≡ false → is_white byte ≡ true → (byte == other) ≡ false
white_apart byte other black white = ne_eqb byte other (λ same. (let clash : true ≡ false = sym white ∙ ap is_white same ∙ black in cc))

-- and no digit
white_undigit : (byte : ℕ) → is_white byte ≡ true → is_digit byte ≡ false
white_undigit byte white =
    elim (either ((byte == 32 || byte == 9) || byte == 10) (byte == 13) white) as (λ _. is_digit byte ≡ false) [
      | inr last ↦ ap is_digit (eqb-true byte 13 last)
      | inl three ↦ elim (either (byte == 32 || byte == 9) (byte == 10) three) as (λ _. is_digit byte ≡ false) [
        | inr feed ↦ ap is_digit (eqb-true byte 10 feed)
        | inl two ↦ elim (either (byte == 32) (byte == 9) two) as (λ _. is_digit byte ≡ false) [
          | inl space ↦ ap is_digit (eqb-true byte 32 space)
          | inr tab ↦ ap is_digit (eqb-true byte 9 tab)
        ]
      ]
    ]

-- ---- steps

-- where a line is after a byte that is no digit
abbrev after_other : ℕ → ℕ → List ℕ → LinePlace
after_other numbers byte rest =
    if byte == 59 then place_in_line Between 0 else
    if byte == 34 then place_in_line (after_quote numbers rest) numbers else
    if (byte == 45 && numbers == 2) && is_no_choice rest then place_in_line Choice numbers else
    place_in_line Between numbers

-- a byte is shown, and the line goes on at a known place
pub shown_step : (context : LineContext) (numbers byte : ℕ) (rest : List ℕ) (next : LinePlace) → place_after context numbers byte rest ≡ next
    → bare_from (place_in_line context numbers) (byte ∷ rest) ≡ shown_in_line context next.context byte ∷ bare_from next rest
shown_step context numbers byte rest next is = ap (λ (p : LinePlace). shown_in_line context p.context byte ∷ bare_from p rest) is

-- white space stays between numbers
pub white_step : (numbers byte : ℕ) (rest : List ℕ) → is_white byte ≡ true
    → bare_from (place_in_line Between numbers) (byte ∷ rest) ≡ byte ∷ bare_from (place_in_line Between numbers) rest
white_step numbers byte rest white =
    shown_step Between numbers byte rest (place_in_line Between numbers)
    (ap (λ t. if t then place_in_line Number (counted Between numbers) else after_other numbers byte rest) (white_undigit byte white)
    ∙ ap (λ t. if t then place_in_line Between 0 else
    if byte == 34 then place_in_line (after_quote numbers rest) numbers else
    if (byte == 45 && numbers == 2) && is_no_choice rest then place_in_line Choice numbers else
    place_in_line Between numbers) (white_apart byte 59 refl white)
    ∙ ap (λ t. if t then place_in_line (after_quote numbers rest) numbers else
    if (byte == 45 && numbers == 2) && is_no_choice rest then place_in_line Choice numbers else
    place_in_line Between numbers) (white_apart byte 34 refl white)
    ∙ ap (λ t. if (t && numbers == 2) && is_no_choice rest then place_in_line Choice numbers else place_in_line Between numbers) (white_apart byte 45 refl white))

pub white_pass : (numbers : ℕ) (gap rest : List ℕ) → IsWhiteSpace gap
    → bare_from (place_in_line Between numbers) (gap ++ rest) ≡ gap ++ bare_from (place_in_line Between numbers) rest
white_pass numbers [] rest white = refl
white_pass numbers (byte ∷ gap) rest white =
    white_step numbers byte (gap ++ rest) (All-head (λ b. is_white b ≡ true) byte gap white)
    ∙ ap (λ list. byte ∷ list) (white_pass numbers gap rest (All-tail (λ b. is_white b ≡ true) byte gap white))

-- the first digit of a number is counted
pub first_digit : (numbers byte : ℕ) (rest : List ℕ) → is_digit byte ≡ true
    → bare_from (place_in_line Between numbers) (byte ∷ rest) ≡ byte ∷ bare_from (place_in_line Number (counted Between numbers)) rest
first_digit numbers byte rest digit =
    shown_step Between numbers byte rest (place_in_line Number (counted Between numbers))
    (ap (λ t. if t then place_in_line Number (counted Between numbers) else after_other numbers byte rest) digit)

-- the others are not
pub digits_pass : (numbers : ℕ) (digits rest : List ℕ) → AllPass is_digit digits
    → bare_from (place_in_line Number numbers) (digits ++ rest) ≡ digits ++ bare_from (place_in_line Number numbers) rest
digits_pass numbers [] rest all = refl
digits_pass numbers (byte ∷ digits) rest all =
    shown_step Number numbers byte (digits ++ rest) (place_in_line Number numbers)
    (ap (λ t. if t then place_in_line Number numbers else after_other numbers byte (digits ++ rest)) (All-head (λ b. is_digit b ≡ true) byte digits all))
    ∙ ap (λ list. byte ∷ list) (digits_pass numbers digits rest (All-tail (λ b. is_digit b ≡ true) byte digits all))

-- a number ends before a byte that is no digit
number_ends : (numbers byte : ℕ) (rest : List ℕ) → is_digit byte ≡ false
    → bare_from (place_in_line Number numbers) (byte ∷ rest) ≡ bare_from (place_in_line Between numbers) (byte ∷ rest)
number_ends numbers byte rest other =
    shown_step Number numbers byte rest (after_other numbers byte rest)
    (ap (λ t. if t then place_in_line Number numbers else after_other numbers byte rest) other)
    ∙ sym (shown_step Between numbers byte rest (after_other numbers byte rest)
    (ap (λ t. if t then place_in_line Number (counted Between numbers) else after_other numbers byte rest) other))

number_ends_before : (numbers : ℕ) (bytes : List ℕ) (byte : ℕ) (rest : List ℕ) → is_digit (get_or bytes 0 0) ≡ false → is_digit byte ≡ false
    → bare_from (place_in_line Number numbers) (bytes ++ byte ∷ rest) ≡ bare_from (place_in_line Between numbers) (bytes ++ byte ∷ rest)
number_ends_before numbers [] byte rest ended other = number_ends numbers byte rest other
number_ends_before numbers (first ∷ bytes) byte rest ended other = number_ends numbers first (bytes ++ byte ∷ rest) ended

-- ---- numbers

-- so many numbers more are counted
abbrev pub tally : ℕ → ℕ → ℕ
tally zero numbers = numbers
tally (suc n) numbers = tally n (counted Between numbers)

pub numbers_pass : (n numbers : ℕ) (front : List ℕ) (byte : ℕ) (rest : List ℕ) → AreNumbers n front → is_digit byte ≡ false
    → bare_from (place_in_line Between numbers) (front ++ byte ∷ rest) ≡ front ++ bare_from (place_in_line Between (tally n numbers)) (byte ∷ rest)
numbers_pass zero numbers front byte rest are other = white_pass numbers front (byte ∷ rest) are
numbers_pass (suc n) numbers front byte rest are other =
    let Z : List ℕ = bare_from (place_in_line Between (tally n (counted Between numbers))) (byte ∷ rest) in
    ap (λ list. bare_from (place_in_line Between numbers) (list ++ byte ∷ rest)) are.split
    ∙ ap (bare_from (place_in_line Between numbers)) (append_assoc are.gap (are.first ∷ (are.others ++ are.rest)) (byte ∷ rest))
    ∙ white_pass numbers are.gap (are.first ∷ ((are.others ++ are.rest) ++ byte ∷ rest)) are.white
    ∙ ap (λ list. are.gap ++ list)
    (first_digit numbers are.first ((are.others ++ are.rest) ++ byte ∷ rest) (All-head (λ b. is_digit b ≡ true) are.first are.others are.digits)
    ∙ ap (λ list. are.first ∷ list)
    (ap (bare_from (place_in_line Number (counted Between numbers))) (append_assoc are.others are.rest (byte ∷ rest))
    ∙ digits_pass (counted Between numbers) are.others (are.rest ++ byte ∷ rest) (All-tail (λ b. is_digit b ≡ true) are.first are.others are.digits)
    ∙ ap (λ list. are.others ++ list)
    (number_ends_before (counted Between numbers) are.rest byte rest are.ended other
    ∙ numbers_pass n (counted Between numbers) are.rest byte rest are.behind other)
    ∙ sym (append_assoc are.others are.rest Z)))
    ∙ sym (append_assoc are.gap (are.first ∷ (are.others ++ are.rest)) Z)
    ∙ ap (λ list. list ++ Z) (sym are.split)

-- three stand for all that are more
counted_is : (numbers : ℕ) → numbers ≤ 3 → counted Between numbers ≡ min (suc numbers) 3
counted_is numbers few =
    elim (cases_lt numbers 3) as (λ _. counted Between numbers ≡ min (suc numbers) 3) [
      | inl less ↦ ap (λ t. if t then numbers + 1 else 3) (lt-ltb numbers 3 less) ∙ omega (arith, less)
      | inr most ↦ ap (λ t. if t then numbers + 1 else 3) (le-ltb numbers 3 most) ∙ omega (arith, few, most)
    ]

pub tally_is : (n numbers : ℕ) → numbers ≤ 3 → tally n numbers ≡ min (n + numbers) 3
tally_is zero numbers few = omega (arith, few)
tally_is (suc n) numbers few =
    let one = counted_is numbers few in
    let rest = tally_is n (counted Between numbers) (omega (arith, one)) in omega (arith, rest, one)
