-- The lanes in which the literals of the propositions so far hold.
use Rattle.omega_hoa_satisfiable.specs.private.LiteralLanes.{AreAgreeing}
use Rattle.omega_hoa_satisfiable.proofs.literal_lanes.low_lanes.Given as goal

abbrev pub invariant-loop-p : goal.invariant-loop-p
invariant-loop-p l = AreAgreeing l.literals l.p l.lanes
