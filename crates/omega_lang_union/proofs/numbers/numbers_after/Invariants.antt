-- the numbers so far
use Rattle.std.proofs.Common.{◌≡◌, take}
use Rattle.omega_lang_union.specs.Parts.{moved}
use Rattle.omega_lang_union.proofs.numbers.numbers_after.Given as goal

abbrev pub invariant-loop-number : goal.invariant-loop-number
invariant-loop-number l = l.list ≡ moved l.before (take l.number-index l.numbers)
