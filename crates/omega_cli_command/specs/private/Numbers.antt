-- What is said if `std` reads no number.
use Rattle.std.specs.Prelude.{ℕ, Bool, cond, nat_lt}
use Rattle.std.specs.Char.{digit_value}
use Rattle.std.specs.declared.num.IntErrorKind.{IntErrorKind}
use Rattle.std.specs.declared.num.IntErrorKind.TheVariants as kind
use Rattle.omega_cli_command.specs.declared.mistake.Reason.{Reason}
use Rattle.omega_cli_command.specs.declared.mistake.Reason.TheVariants as reason

-- whether a byte is a decimal digit
abbrev pub is_decimal : ℕ → Bool
is_decimal byte = nat_lt (digit_value byte) 10

-- the reason for a kind of error, by whether the text has only digits
abbrev pub reason_for : Bool → IntErrorKind → Reason
reason_for digits kind.Empty = reason.Empty
reason_for digits kind.InvalidDigit = reason.NotDigits
reason_for digits kind.PosOverflow = cond digits reason.TooLarge reason.NotDigits
reason_for digits kind.NegOverflow = reason.NotDigits
reason_for digits kind.Zero = reason.NotDigits
