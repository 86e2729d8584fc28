-- What the kind of an error says of a text in which `std` reads no number.
use Rattle.std.proofs.Common.{◌≡◌, ℕ, ◌&&◌, ◌<◌, ◌^◌, ◌∷◌, [], inl, inr, List, Bool, true, false, length, slice_index, ◌==◌, refl, subst, arith}
use Rattle.std.proofs.lemmas.Bool.{ltb-true, lt-ltb, eqb-true, cases_lt}
use Rattle.std.specs.List.{list_all}
use Rattle.std.specs.Char.{digit_value}
use Rattle.std.specs.Str.Parse.{AllDigits, IsNumeral, IsParseIntError, digits_value, without_leading_plus}
use Rattle.std.specs.declared.num.IntErrorKind.{IntErrorKind}
use Rattle.std.specs.declared.num.IntErrorKind.TheVariants as kind
use Rattle.omega_cli_command.specs.Reason.{BeginsWithSign, IsNumberReason}
use Rattle.omega_cli_command.specs.private.Numbers.{is_decimal, reason_for}

both : (a b : Bool) → a && b ≡ true → (a ≡ true) × (b ≡ true)
both true b is = (refl, is)
both false b is = cc

-- bytes that pass are digits
digits_from : (text : List ℕ) → list_all is_decimal text ≡ true → AllDigits 10 text
digits_from [] passed = tt
digits_from (byte ∷ rest) passed =
    let parts = both (is_decimal byte) (list_all is_decimal rest) passed in
    (ltb-true _ _ parts.0, digits_from rest parts.1)

-- and digits pass
digits_back : (text : List ℕ) → AllDigits 10 text → list_all is_decimal text ≡ true
digits_back [] digits = refl
digits_back (byte ∷ rest) digits = rw (lt-ltb (digit_value byte) 10 digits.0) (digits_back rest digits.1)

empty : (text : List ℕ) → length text ≡ 0 → text ≡ []
empty [] none = refl
empty (byte ∷ rest) none = absurd (omega (arith, none))

-- the reason for a text that begins with no sign
reported : (least most : ℕ) (text : List ℕ) (why : IntErrorKind) → (BeginsWithSign text → ⊥) → IsParseIntError 10 text text kind.PosOverflow why
    → (IsNumeral 10 text × (digits_value 10 text < 2 ^ 64) → ⊥) → IsNumberReason least most text (reason_for (list_all is_decimal text) why)
reported least most text why unsigned (inl (is, none)) fails = rw is (empty text none)
reported least most text why unsigned (inr (some, inl (is, other))) fails = rw is (record { nonempty = some; unsigned = unsigned }, other)
reported least most text why unsigned (inr (some, inr is)) fails = rw is (go (list_all is_decimal text) refl)
  where
    go : (digits : Bool) → list_all is_decimal text ≡ digits → IsNumberReason least most text (reason_for digits kind.PosOverflow)
    go true passed = elim (cases_lt (digits_value 10 text) (2 ^ 64)) [
      | inl small ↦ absurd (fails ((some, digits_from text passed), small))
      | inr large ↦ ((some, digits_from text passed), large)
    ]
    go false passed = (record { nonempty = some; unsigned = unsigned }, λ numeral. let all = digits_back text numeral.1 in cc)

-- if no plus begins it, none is left out
whole : (text : List ℕ) → (BeginsWithSign text → ⊥) → without_leading_plus text ≡ text
whole text unsigned = go (slice_index text 0 == 43) refl
  where
    go : (b : Bool) → (slice_index text 0 == 43) ≡ b → without_leading_plus text ≡ text
    go true is = absurd (unsigned (inl (eqb-true _ _ is)))
    go false is = rw is refl

-- the same of what `std` reads, which is the text after a plus
pub reported_after : (least most : ℕ) (text : List ℕ) (why : IntErrorKind) → (BeginsWithSign text → ⊥)
    → IsParseIntError 10 text (without_leading_plus text) kind.PosOverflow why
    → (IsNumeral 10 (without_leading_plus text) × (digits_value 10 (without_leading_plus text) < 2 ^ 64) → ⊥)
    → IsNumberReason least most text (reason_for (list_all is_decimal text) why)
reported_after least most text why unsigned error fails =
    reported least most text why unsigned (subst (λ (digits : List ℕ). IsParseIntError 10 text digits kind.PosOverflow why) (whole text unsigned) error)
    (subst (λ (digits : List ℕ). IsNumeral 10 digits × (digits_value 10 digits < 2 ^ 64) → ⊥) (whole text unsigned) fails)
