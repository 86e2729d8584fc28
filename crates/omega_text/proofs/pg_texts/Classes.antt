-- What the classes of bytes are as numbers, and that a first byte belongs to one of them.
use Rattle.std.proofs.Common.{inl, inr, refl, ◌⊎◌, ◌≡◌, ℕ, ◌≤◌, Bool, true, false, arith}
use Rattle.std.proofs.lemmas.Bool.Decides.{nat_tests}
use Rattle.omega_text.specs.Bytes.{is_digit, is_letter, is_word_byte}

-- a digit as a number
pub digit_range : (byte : ℕ) → is_digit byte ≡ true → (48 ≤ byte) × (byte ≤ 57)
digit_range byte digit = grind (arith, nat_tests)

-- a letter or an underscore as a number
pub letter_range : (byte : ℕ) → is_letter byte ≡ true → (65 ≤ byte) × (byte ≤ 122)
letter_range byte letter = grind (arith, nat_tests)

-- a word goes on with letters
pub letter_in_word : (byte : ℕ) → is_letter byte ≡ true → is_word_byte byte ≡ true
letter_in_word byte letter = grind (arith, nat_tests)

-- a byte is not in a class and out of it
pub both_ways : (answer : Bool) → answer ≡ true → answer ≡ false → ⊥
both_ways answer holds fails = cc

-- a test holds or fails
pub two_ways : (answer : Bool) → (answer ≡ true) ⊎ (answer ≡ false)
two_ways true = inl refl
two_ways false = inr refl
