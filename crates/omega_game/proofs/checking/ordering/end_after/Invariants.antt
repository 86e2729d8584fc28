-- What holds in the loop of `end_after`: the first position after `index` with a greater rank,
-- found by the ends of the positions after it.
use Rattle.std.proofs.Common.{ℕ, ◌<◌, ◌≤◌, ◌-◌, length, get_or}
use Rattle.omega_game.proofs.checking.ordering.end_after.Given as goal

abbrev pub invariant-loop-end : goal.invariant-loop-end
invariant-loop-end l =
    record { following : l.index < l.end; ranks : (k : ℕ) → l.index ≤ k → k < l.end → get_or l.ranks k 0 ≤ get_or l.ranks l.index 0 }

abbrev pub decreases-loop-end : goal.decreases-loop-end
decreases-loop-end l = length l.ranks - l.end
