-- What was passed does not begin `*/`.
use Rattle.std.proofs.Common.{length, ◌-◌, ◌≡◌, drop}
use Rattle.omega_pg_lenient.specs.Plain.{is_closed}
use Rattle.omega_pg_lenient.proofs.context.is_closed.Given as goal

abbrev pub invariant-loop-at : goal.invariant-loop-at
invariant-loop-at l = is_closed (drop l.at l.bytes) ≡ is_closed l.bytes

abbrev pub decreases-loop-at : goal.decreases-loop-at
decreases-loop-at l = length l.bytes - l.at
