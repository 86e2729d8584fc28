-- The digits so far with their value, or that it is above the greatest number.
use Rattle.std.proofs.Common.{◌≡◌, ◌+◌, ◌*◌, ◌≤◌, ◌<◌, ℕ, true, get_or, take}
use Rattle.std.specs.Str.Parse.{digits_value}
use Rattle.omega_text.specs.Bytes.{is_digit}
use Rattle.omega_text.specs.Limits.{most_number}
use Rattle.omega_text.proofs.digits.front_digits.Given as goal

abbrev pub invariant-loop-count : goal.invariant-loop-count
invariant-loop-count l = record {
  digits : (k : ℕ) → k < l.count → is_digit (get_or l.bytes k 0) ≡ true;
  exact : l.value ≤ most_number → l.value ≡ digits_value 10 (take l.count l.bytes);
  great : most_number < l.value → most_number < digits_value 10 (take l.count l.bytes);
  small : l.value ≤ most_number * 10 + 9;
}
