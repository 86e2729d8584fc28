-- what the sort makes
use Rattle.omega_lang_trim.proofs.Flags.{rising_sorted}
use Rattle.omega_lang_trim.proofs.useful.sort.Goals as goal

pub returns-clause-rising : goal.returns-clause-rising
returns-clause-rising c = rising_sorted _ c.sort.ensures.unique c.in_ok-sort.ensures.sorted
