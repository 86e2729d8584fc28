-- one conjunct fewer
use Rattle.std.proofs.Common.{length}
use Rattle.omega_ltl_satisfaction.proofs.meeting.+common_words.Given as goal

abbrev pub decreases-common_words : goal.decreases-common_words
decreases-common_words l = length l.conjuncts.now
