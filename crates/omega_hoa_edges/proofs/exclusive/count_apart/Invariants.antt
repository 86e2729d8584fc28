-- The labels so far were added up, and are apart.
use Rattle.omega_hoa_edges.specs.private.Apart.{AreAddedUp, AreApartTo}
use Rattle.omega_hoa_edges.proofs.exclusive.count_apart.Given as goal

abbrev pub invariant-loop-second : goal.invariant-loop-second
invariant-loop-second l = AreAddedUp l.labels l.second l.table × AreApartTo l.labels l.second
