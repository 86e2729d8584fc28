-- the strings so far
use Rattle.std.proofs.Common.{◌≡◌, take}
use Rattle.omega_text.proofs.byte_string.copy_of_strings.Given as goal

abbrev pub invariant-loop-string : goal.invariant-loop-string
invariant-loop-string l = l.same.items ≡ take l.string-index l.strings
