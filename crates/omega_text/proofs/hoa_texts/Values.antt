-- The value of digits, digit by digit.
use Rattle.std.proofs.Common.{◌≡◌, ◌≢◌, ℕ, ◌+◌, ◌-◌, ◌*◌, ◌<◌, ◌≤◌, ◌⊎◌, ⊎_elim, true, List, [], ◌∷◌, ◌++◌, length, get_or, take, refl, sym, ap, ◌∙◌, subst, arith, length-append}
use Rattle.std.proofs.lemmas.Fmt.{decimal_digit, first_decimal}
use Rattle.std.proofs.lemmas.List.{get_or-append_right, get_or_append_left, take_all, take_at}
use Rattle.std.proofs.lemmas.List.Elements.{All-cons, All-nil, All-push}
use Rattle.std.specs.Str.Parse.{digits_value}
use Rattle.omega_text.specs.Limits.{most_number}
use Rattle.omega_text.specs.declared.hoa.kind.HoaKind.TheVariants.{Int}
use Rattle.omega_text.specs.declared.pg.kind.PgKind.TheVariants.{Number}
use Rattle.omega_text.specs.hoa.Forms.{Spells}
use Rattle.omega_text.specs.private.hoa.scanning.Reading.{IsValueOf}
use Rattle.omega_text.specs.Bytes.{is_digit}
use Rattle.omega_text.specs.Forms.{IsDigits}
use Rattle.omega_text.proofs.hoa_texts.Numbers.{IsNoNumber}
use Rattle.omega_text.proofs.pg_texts.Longest.{head}
use Rattle.omega_text.proofs.pg_texts.Numbers.{decimal_value, front_value, needless_zero, too_great, value_more, value_no_less, worth_small}
use Rattle.omega_text.proofs.pg_texts.Written.{number_plain}

-- one digit
pub one_digit : (byte : ℕ) → is_digit byte ≡ true → IsValueOf (byte - 48) (byte ∷ [])
one_digit byte digit =
    let digits : IsDigits (byte ∷ []) = (omega arith, All-cons (λ b. is_digit b ≡ true) byte [] digit (All-nil (λ b. is_digit b ≡ true))) in
    let small = worth_small byte digit in
    let value = value_more (byte ∷ []) 0 0 (byte - 48) (omega arith) digit refl refl in
    let is : byte - 48 ≡ digits_value 10 (byte ∷ []) = omega (arith, value) in
    record {
      number = λ _. (omega arith, front_value (byte ∷ []) (byte - 48) digits (λ _. omega arith) is (omega arith));
      none = λ great number spells. omega arith;
    }

-- digits with one more
module _ (text : List ℕ) (byte : ℕ) (digits : IsDigits text) (digit : is_digit byte ≡ true) where
  whole : List ℕ
  whole = text ++ byte ∷ []

  size : length (text ++ byte ∷ []) ≡ length text + 1
  size = length-append text (byte ∷ [])

  all_digits : IsDigits (text ++ byte ∷ [])
  all_digits = (omega (arith, size), All-push (λ b. is_digit b ≡ true) text byte digits.1 digit)

  same_head : head (text ++ byte ∷ []) ≡ head text
  same_head = get_or_append_left text (byte ∷ []) 0 0 digits.0

  last : get_or (text ++ byte ∷ []) (length text) 0 ≡ byte
  last = let none : length text - length text ≡ 0 = omega arith in
      get_or-append_right text (byte ∷ []) (length text) (length text) 0 refl (omega arith) ∙ ap (λ n. get_or (byte ∷ []) n 0) none

  front : take (length text) (text ++ byte ∷ []) ≡ text
  front = take_at text (byte ∷ []) (length text) refl

  -- the value of all
  value_of_all : (value : ℕ) → value ≡ digits_value 10 text → value * 10 + (byte - 48) ≡ digits_value 10 (text ++ byte ∷ [])
  value_of_all value is =
      value_more (text ++ byte ∷ []) (length text) value (byte - 48) (omega (arith, size)) (ap is_digit last ∙ digit) (is ∙ ap (digits_value 10) (sym front)) (ap (λ b. b - 48) (sym last))
      ∙ ap (digits_value 10) (take_all (length text + 1) (text ++ byte ∷ []) (omega (arith, size)))

  -- which is no less than that of the front
  no_less : digits_value 10 text ≤ digits_value 10 (text ++ byte ∷ [])
  no_less =
      let less = value_no_less (text ++ byte ∷ []) (length text) (omega (arith, size)) in
      let one = ap (digits_value 10) front in
      let all = ap (digits_value 10) (take_all (length text + 1) (text ++ byte ∷ []) (omega (arith, size))) in
      omega arith

  -- after `0`
  zero_more : Spells Int 0 text → IsNoNumber (text ++ byte ∷ [])
  zero_more spells = needless_zero (text ++ byte ∷ []) all_digits (same_head ∙ ap head (spells.1 ∙ decimal_digit 0 (omega arith))) (omega (arith, size, digits.0)) Number

  -- after digits that are no number
  wrong_more : IsNoNumber text → IsNoNumber (text ++ byte ∷ [])
  wrong_more wrong number spells =
      let plain = (number_plain (text ++ byte ∷ []) number).0 spells in
      let some = digits.0 in
      let small : digits_value 10 text ≤ most_number = omega (arith, no_less, plain.2, plain.3) in
      wrong (digits_value 10 text) (small, decimal_value text digits (λ zero_first. absurd (omega (arith, plain.1 (same_head ∙ zero_first), size))) (omega arith))

  -- after a number above 0
  number_more : (value : ℕ) → 0 < value → Spells Int value text → IsValueOf (value * 10 + (byte - 48)) (text ++ byte ∷ [])
  number_more value positive spells =
      let plain = (number_plain text value).0 spells in
      let is = value_of_all value (sym plain.2) in
      record {
        number = λ small. (
          small,
          front_value (text ++ byte ∷ []) (value * 10 + (byte - 48)) all_digits
              (λ zero_first. absurd (let first = first_decimal value positive (omega (arith, spells.0)) in omega (arith, ap head spells.1, same_head, zero_first))) is small,
        );
        none = λ great. too_great (text ++ byte ∷ []) all_digits (omega (arith, is, great)) Number;
      }

  -- after `0`, or after no number
  pub no_more : (value greater : ℕ) → most_number < greater → (value ≡ 0) ⊎ (most_number < value) → IsValueOf value text → IsValueOf greater (text ++ byte ∷ [])
  no_more value greater above either before = record {
    number = λ small. absurd (omega (arith, small, above));
    none = λ _. ⊎_elim
        (λ zero_value. zero_more (subst (λ n. Spells Int n text) zero_value (before.number (omega arith))))
        (λ great. wrong_more (before.none great))
        either;
  }

  -- after another number
  pub one_more : (value : ℕ) → value ≢ 0 → value ≤ most_number → IsValueOf value text → IsValueOf (value * 10 + (byte - 48)) (text ++ byte ∷ [])
  one_more value positive small before = number_more value (omega arith) (before.number small)
