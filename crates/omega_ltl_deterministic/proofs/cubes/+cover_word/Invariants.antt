-- one name fewer
use Rattle.omega_ltl_deterministic.proofs.cubes.+cover_word.Given as goal

abbrev pub decreases-cover_word : goal.decreases-cover_word
decreases-cover_word l = l.names
