-- So far neither a mark nor a fault was settled.
use Rattle.std.proofs.Common.{◌-◌, length}
use Rattle.omega_text.specs.private.hoa.scanning.Passing.{Passes}
use Rattle.omega_text.proofs.hoa.passing.pass_bytes.Given as goal

abbrev pub invariant-loop-place : goal.invariant-loop-place
invariant-loop-place l = Passes l.start l.bytes l.from l.place l.initial.reached l.reached

abbrev pub decreases-loop-place : goal.decreases-loop-place
decreases-loop-place l = length l.bytes - l.place
