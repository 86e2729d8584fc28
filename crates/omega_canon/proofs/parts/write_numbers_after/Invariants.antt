-- `write_numbers_after`: the items before this one are written.
use Rattle.std.proofs.Common.{◌≡◌, ◌∷◌, ◌++◌, [], take}
use Rattle.omega_canon.specs.Parts.{numbers_after}
use Rattle.omega_canon.proofs.parts.write_numbers_after.Given as goal

abbrev pub invariant-loop-number : goal.invariant-loop-number
invariant-loop-number l = l.out.items ≡ l.fn.out.items ++ numbers_after (l.sign ∷ []) (take l.number-index l.numbers)
