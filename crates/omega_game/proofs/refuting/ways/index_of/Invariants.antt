-- What holds in the loop of `index_of`: an index of a place that was met.
use Rattle.std.proofs.Common.{◌≡◌, ℕ, ◌<◌, ◌-◌, length, get_or}
use Rattle.omega_game.proofs.refuting.ways.index_of.Given as goal

abbrev pub invariant-loop-index : goal.invariant-loop-index
invariant-loop-index l = (k : ℕ) → k < l.index → get_or l.met k 0 ≡ l.target → ⊥

abbrev pub decreases-loop-index : goal.decreases-loop-index
decreases-loop-index l = length l.met - l.index
