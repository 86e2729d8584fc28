-- `second_with`: the edges so far are passed over.
use Rattle.omega_hoa_diagnostics.proofs.Passing.{ArePassedTo}
use Rattle.omega_hoa_diagnostics.proofs.choosing.second_with.Given as goal

abbrev pub invariant-loop-second : goal.invariant-loop-second
invariant-loop-second l = ArePassedTo l.labels l.first l.second
