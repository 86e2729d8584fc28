-- each half is shorter
use Rattle.std.proofs.Common.{length}
use Rattle.omega_lang_complement.proofs.rest.+put_any.Given as goal

abbrev pub decreases-put_any : goal.decreases-put_any
decreases-put_any l = length l.labels.now
