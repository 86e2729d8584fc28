-- The greatest so far.
use Rattle.std.proofs.Common.{◌≡◌, take}
use Rattle.omega_aiger.specs.Written.{greatest}
use Rattle.omega_aiger.proofs.writing.greatest.Given as goal

abbrev pub invariant-loop-number : goal.invariant-loop-number
invariant-loop-number l = l.most ≡ greatest (take l.number-index l.numbers)
