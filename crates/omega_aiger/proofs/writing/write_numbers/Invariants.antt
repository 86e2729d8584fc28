-- The lines so far.
use Rattle.std.proofs.Common.{◌≡◌, ◌++◌, take}
use Rattle.std.specs.List.{flat_map}
use Rattle.omega_aiger.specs.Written.{number_text}
use Rattle.omega_aiger.proofs.writing.write_numbers.Given as goal

abbrev pub invariant-loop-number : goal.invariant-loop-number
invariant-loop-number l = l.out.items ≡ l.initial.out.items ++ flat_map number_text (take l.number-index l.numbers)
