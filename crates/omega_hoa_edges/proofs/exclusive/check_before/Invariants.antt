-- the labels so far are apart from the one
use Rattle.omega_hoa_edges.specs.private.Apart.{IsApartFrom}
use Rattle.omega_hoa_edges.proofs.exclusive.check_before.Given as goal

abbrev pub invariant-loop-first : goal.invariant-loop-first
invariant-loop-first l = IsApartFrom l.state.labels.now l.second l.first
