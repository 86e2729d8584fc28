-- the labels so far are apart
use Rattle.omega_hoa_edges.specs.private.Apart.{AreApartTo}
use Rattle.omega_hoa_edges.proofs.exclusive.check_from.Given as goal

abbrev pub invariant-loop-second : goal.invariant-loop-second
invariant-loop-second l = AreApartTo l.state.labels.now l.second
