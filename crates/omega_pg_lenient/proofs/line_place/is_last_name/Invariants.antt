-- What was passed has neither a quote nor a line feed.
use Rattle.std.proofs.Common.{length, ◌-◌, ◌≡◌, drop}
use Rattle.omega_pg_lenient.specs.SolutionLines.{is_last_name}
use Rattle.omega_pg_lenient.proofs.line_place.is_last_name.Given as goal

abbrev pub invariant-loop-at : goal.invariant-loop-at
invariant-loop-at l = is_last_name (drop l.at l.bytes) ≡ is_last_name l.bytes

abbrev pub decreases-loop-at : goal.decreases-loop-at
decreases-loop-at l = length l.bytes - l.at
