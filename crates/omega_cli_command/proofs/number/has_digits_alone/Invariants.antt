-- `has_digits_alone`: all bytes are digits exactly if those that are left are.
use Rattle.std.proofs.Common.{◌≡◌, drop}
use Rattle.std.specs.List.{list_all}
use Rattle.omega_cli_command.specs.private.Numbers.{is_decimal}
use Rattle.omega_cli_command.proofs.number.has_digits_alone.Given as goal

abbrev pub invariant-loop-byte : goal.invariant-loop-byte
invariant-loop-byte l = list_all is_decimal (drop l.byte-index l.text) ≡ list_all is_decimal l.text
