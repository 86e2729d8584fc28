use Rattle.omega_lang_runs.proofs.Verdicts.{verdicts_agree}
use Rattle.omega_lang_runs.proofs.laws.verdicts_agree.Goals as goal

pub returns : goal.returns
returns c = verdicts_agree
