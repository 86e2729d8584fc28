-- What holds in the loop of `way_back`: the places before the one at an index on the way on which it was met.
use Rattle.std.proofs.Common.{ℕ, List, ◌++◌, ◌<◌, length, reverse}
use Rattle.omega_game.specs.private.refuting.Ways.{IsWay}
use Rattle.omega_game.proofs.refuting.ways.way_back.Given as goal

abbrev pub invariant-loop-at : goal.invariant-loop-at
invariant-loop-at l =
    (l.at < length l.met) × ((front : List ℕ) → IsWay l.met l.origins l.at front → IsWay l.met l.origins l.index (front ++ reverse l.before.items))

abbrev pub decreases-loop-at : goal.decreases-loop-at
decreases-loop-at l = l.at
