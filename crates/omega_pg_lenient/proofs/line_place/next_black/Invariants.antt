-- What was passed is white.
use Rattle.std.proofs.Common.{length, ◌-◌, ◌≡◌, drop}
use Rattle.omega_pg_lenient.specs.SolutionLines.{next_black}
use Rattle.omega_pg_lenient.proofs.line_place.next_black.Given as goal

abbrev pub invariant-loop-at : goal.invariant-loop-at
invariant-loop-at l = next_black (drop l.at l.bytes) ≡ next_black l.bytes

abbrev pub decreases-loop-at : goal.decreases-loop-at
decreases-loop-at l = length l.bytes - l.at
