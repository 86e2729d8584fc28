-- What is left and what is put are the text.
use Rattle.std.proofs.Common.{◌≡◌, ◌++◌, length}
use Rattle.omega_hoa_expression.proofs.leftward.Leftward.put.Given as goal

abbrev pub invariant-loop-byte : goal.invariant-loop-byte
invariant-loop-byte l = l.left ++ l.self ≡ l.fn.text ++ l.fn.self

abbrev pub decreases-loop-byte : goal.decreases-loop-byte
decreases-loop-byte l = length l.left
