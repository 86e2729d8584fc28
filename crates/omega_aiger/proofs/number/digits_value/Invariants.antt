-- The value of the digits so far, or that it is above the greatest number.
use Rattle.std.proofs.Common.{◌≡◌, ◌+◌, ◌*◌, ◌≤◌, ◌<◌, take}
use Rattle.std.specs.Str.Parse.{digits_value}
use Rattle.omega_text.specs.Limits.{most_number}
use Rattle.omega_aiger.proofs.number.digits_value.Given as goal

abbrev pub invariant-loop-digit : goal.invariant-loop-digit
invariant-loop-digit l = record {
  exact : l.value ≤ most_number → l.value ≡ digits_value 10 (take l.digit-index l.digits);
  great : most_number < l.value → most_number < digits_value 10 (take l.digit-index l.digits);
  small : l.value ≤ most_number * 10 + 9;
}
