-- each half is shorter
use Rattle.std.proofs.Common.{length}
use Rattle.omega_ltl_deterministic.proofs.labels.+label_of.Given as goal

abbrev pub decreases-label_of : goal.decreases-label_of
decreases-label_of l = length l.cubes.now
