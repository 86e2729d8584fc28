-- `write_numbers_after`: the numbers before this one are written.
use Rattle.std.proofs.Common.{◌≡◌, ◌++◌, take}
use Rattle.omega_hoa_dot.specs.States.{spaced_numbers}
use Rattle.omega_hoa_dot.proofs.states.write_numbers_after.Given as goal

abbrev pub invariant-loop-number : goal.invariant-loop-number
invariant-loop-number l = l.out.items ≡ l.fn.out.items ++ spaced_numbers (take l.number-index l.numbers)
