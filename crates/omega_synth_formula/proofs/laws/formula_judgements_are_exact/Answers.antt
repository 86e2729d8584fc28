-- the law
use Rattle.omega_synth_formula.proofs.Judgements.{judgements_are_exact}
use Rattle.omega_synth_formula.proofs.laws.formula_judgements_are_exact.Goals as goal

pub returns : goal.returns
returns c = judgements_are_exact
