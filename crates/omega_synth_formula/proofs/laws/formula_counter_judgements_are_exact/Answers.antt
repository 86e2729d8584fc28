-- the law
use Rattle.omega_synth_formula.proofs.CounterJudgements.{counter_judgements_are_exact}
use Rattle.omega_synth_formula.proofs.laws.formula_counter_judgements_are_exact.Goals as goal

pub returns : goal.returns
returns c = counter_judgements_are_exact
