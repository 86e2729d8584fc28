-- The value of digits, one after the other.
use Rattle.std.proofs.Common.{◌≡◌, ◌⊎◌, inl, inr, ℕ, ◌+◌, ◌-◌, ◌*◌, ◌≤◌, ◌<◌, ◌==◌, ◌&&◌, not, Bool, true, false, List, length, get_or, take, refl, ap, ap₂, ◌∙◌, arith}
use Rattle.std.specs.Prelude.{nat_le, nat_lt}
use Rattle.std.specs.List.{AllPass}
use Rattle.std.specs.Str.Parse.{digits_value}
use Rattle.std.proofs.lemmas.Bool.{eq-eqb, eqb-true, le-leb, le-ltb, lt-leb, lt-ltb}
use Rattle.omega_aiger.specs.private.Outcome.{is_number}
use Rattle.omega_aiger.proofs.Splits.{tells}
use Rattle.omega_text.specs.Bytes.{is_digit}
use Rattle.omega_text.specs.Limits.{most_number}
use Rattle.omega_text.proofs.pg_texts.Numbers.{value_more, value_no_less, worth_small}

-- one digit more
pub digit_more : (digits : List ℕ) (i value worth : ℕ) → i < length digits → AllPass is_digit digits → (value ≤ most_number → value ≡ digits_value 10 (take i digits)) → value ≤ most_number
    → worth ≡ get_or digits i 0 - 48 → (value * 10 + worth ≡ digits_value 10 (take (i + 1) digits)) × (worth ≤ 9)
digit_more digits i value worth within all exact small is =
    let digit : is_digit (get_or digits i 0) ≡ true = all i 0 within in
    let low = worth_small (get_or digits i 0) digit in
    (value_more digits i value worth within digit (exact small) is, omega (arith, low, is))

-- the value of more digits is no less
pub value_grows : (digits : List ℕ) (i : ℕ) → i < length digits → digits_value 10 (take i digits) ≤ digits_value 10 (take (i + 1) digits)
value_grows digits i within = value_no_less digits i within

-- a conjunction without its second part
and_false : (a b : Bool) → b ≡ false → (a && b) ≡ false
and_false true b none = none
and_false false b none = refl

-- digits with a needless zero are no number
pub zero_is_none : (digits : List ℕ) → get_or digits 0 0 ≡ 48 → 1 < length digits → is_number digits ≡ false
zero_is_none digits zero long =
    ap₂ (λ (a b : Bool). not (a && b) && nat_le (digits_value 10 digits) most_number) (eq-eqb (get_or digits 0 0) 48 zero) (lt-ltb 1 (length digits) long)

-- nor are digits with too great a value
pub great_is_none : (digits : List ℕ) → most_number < digits_value 10 digits → is_number digits ≡ false
great_is_none digits great =
    and_false (not (get_or digits 0 0 == 48 && nat_lt 1 (length digits))) (nat_le (digits_value 10 digits) most_number) (lt-leb (digits_value 10 digits) most_number great)

-- others are
pub plain_is_number : (digits : List ℕ) → (get_or digits 0 0 ≡ 48 → length digits ≤ 1) → digits_value 10 digits ≤ most_number → is_number digits ≡ true
plain_is_number digits plain small = go (tells (get_or digits 0 0 == 48))
  where
    value : nat_le (digits_value 10 digits) most_number ≡ true
    value = le-leb (digits_value 10 digits) most_number small

    go : ((get_or digits 0 0 == 48) ≡ true) ⊎ ((get_or digits 0 0 == 48) ≡ false) → is_number digits ≡ true
    go (inl zero) =
        ap₂ (λ (a b : Bool). not (a && b) && nat_le (digits_value 10 digits) most_number) zero (le-ltb 1 (length digits) (plain (eqb-true (get_or digits 0 0) 48 zero))) ∙ value
    go (inr other) = ap (λ (a : Bool). not (a && nat_lt 1 (length digits)) && nat_le (digits_value 10 digits) most_number) other ∙ value
