-- The bytes so far were read.
use Rattle.std.proofs.Common.{◌-◌, ◌≤◌, length}
use Rattle.omega_hoa.specs.private.dividing.Next.{Extends, IsReadAs}
use Rattle.omega_hoa.proofs.progress.read_bytes.Given as goal

abbrev pub invariant-loop-place : goal.invariant-loop-place
invariant-loop-place l = record {
  within : l.place ≤ length l.bytes;
  read : IsReadAs l.bytes l.first l.from l.place l.initial.reached l.initial.out.items l.out.items l.reached;
  extends : Extends l.initial.out.items l.out.items;
}

abbrev pub decreases-loop-place : goal.decreases-loop-place
decreases-loop-place l = length l.bytes - l.place
