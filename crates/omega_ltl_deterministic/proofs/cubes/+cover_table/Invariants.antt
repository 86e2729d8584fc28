-- one name fewer
use Rattle.omega_ltl_deterministic.proofs.cubes.+cover_table.Given as goal

abbrev pub decreases-cover_table : goal.decreases-cover_table
decreases-cover_table l = l.names
