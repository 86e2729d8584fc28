-- the law
use Rattle.omega_synth_check.proofs.CounterJudgements.{counter_judgements_are_exact}
use Rattle.omega_synth_check.proofs.counter_laws.counter_judgements_are_exact.Goals as goal

pub returns : goal.returns
returns c = counter_judgements_are_exact
