use Rattle.omega_synth_check.proofs.Judgements.{judgements_are_exact}
use Rattle.omega_synth_check.proofs.laws.judgements_are_exact.Goals as goal

pub returns : goal.returns
returns c = judgements_are_exact
