-- The digits so far with their value.
use Rattle.std.proofs.Common.{◌≡◌, ◌^◌, ◌<◌, ℕ, true, get_or, take}
use Rattle.std.specs.Str.Parse.{digits_value}
use Rattle.omega_text.specs.Bytes.{is_digit}
use Rattle.omega_text.proofs.pg.digits.ended_digits.Given as goal

abbrev pub invariant-loop-count : goal.invariant-loop-count
invariant-loop-count l = record {
  digits : (k : ℕ) → k < l.count → is_digit (get_or l.bytes k 0) ≡ true;
  exact : l.value ≡ digits_value 10 (take l.count l.bytes);
  small : l.value < 10 ^ l.count;
}
