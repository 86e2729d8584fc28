use Rattle.std.proofs.Common.{length, ◌-◌, ◌≤◌}
use Rattle.omega_ltl_translation.proofs.joining.place_of.Given as goal

abbrev pub invariant-loop-at : goal.invariant-loop-at
invariant-loop-at l = l.at ≤ length l.joined

abbrev pub decreases-loop-at : goal.decreases-loop-at
decreases-loop-at l = length l.joined - l.at
