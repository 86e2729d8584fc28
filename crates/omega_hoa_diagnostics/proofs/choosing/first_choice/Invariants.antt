-- `first_choice`: the edges so far are passed over with all.
use Rattle.omega_hoa_diagnostics.proofs.Passing.{ArePassedBelow}
use Rattle.omega_hoa_diagnostics.proofs.choosing.first_choice.Given as goal

abbrev pub invariant-loop-first : goal.invariant-loop-first
invariant-loop-first l = ArePassedBelow l.labels l.first
