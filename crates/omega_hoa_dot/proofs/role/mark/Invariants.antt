-- `mark`: the numbers before this one have the role.
use Rattle.std.proofs.Common.{take}
use Rattle.omega_hoa_dot.specs.private.layout.Marking.{AreMarked}
use Rattle.omega_hoa_dot.proofs.role.mark.Given as goal

abbrev pub invariant-loop-number : goal.invariant-loop-number
invariant-loop-number l = AreMarked (take l.number-index l.numbers) l.role l.fn.roles l.roles
