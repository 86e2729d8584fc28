-- What holds in the loop of `are_tied`: the states so far are roots, or flagged twice.
use Rattle.std.proofs.Common.{ℕ, ◌<◌}
use Rattle.omega_graph.specs.private.Judging.{IsTied}
use Rattle.omega_graph.proofs.judging.are_tied.Given as goal

abbrev pub invariant-loop-state : goal.invariant-loop-state
invariant-loop-state l = (other : ℕ) → other < l.state → IsTied l.components l.roots l.ahead l.behind other
