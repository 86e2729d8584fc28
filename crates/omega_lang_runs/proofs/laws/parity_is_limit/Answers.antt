use Rattle.omega_lang_runs.proofs.Parity.{parity_is_limit}
use Rattle.omega_lang_runs.proofs.laws.parity_is_limit.Goals as goal

pub returns : goal.returns
returns c = parity_is_limit c.parity_is_priority.ensures
