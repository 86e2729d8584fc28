-- The numbers so far are in the list.
use Rattle.std.proofs.Common.{◌≡◌, take}
use Rattle.omega_text.proofs.numbers.Numbers.from_slice.Given as goal

abbrev pub invariant-loop-number : goal.invariant-loop-number
invariant-loop-number l = l.list ≡ take l.number-index l.numbers
