-- What is put and what is left are the bytes.
use Rattle.std.proofs.Common.{◌≡◌, ◌++◌, length, reverse}
use Rattle.omega_hoa_expression.proofs.leftward.append_reversed.Given as goal

abbrev pub invariant-loop-byte : goal.invariant-loop-byte
invariant-loop-byte l = l.following.items ++ reverse l.left ≡ l.fn.following.items ++ reverse l.fn.bytes

abbrev pub decreases-loop-byte : goal.decreases-loop-byte
decreases-loop-byte l = length l.left
