-- So far all units are simple.
use Rattle.std.proofs.Common.{◌+◌, ◌-◌, length}
use Rattle.omega_text.specs.private.hoa.scanning.Passing.{Passes}
use Rattle.omega_text.specs.private.hoa.scanning.Unfinished.{fresh}
use Rattle.omega_text.proofs.hoa.passing.pass_simple.Given as goal

abbrev pub invariant-loop-place : goal.invariant-loop-place
invariant-loop-place l = Passes l.start l.bytes l.from l.place (fresh l.start) (fresh (l.start + (l.place - l.from)))

abbrev pub decreases-loop-place : goal.decreases-loop-place
decreases-loop-place l = length l.bytes - l.place
