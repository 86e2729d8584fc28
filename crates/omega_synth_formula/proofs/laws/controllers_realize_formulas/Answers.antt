-- the law
use Rattle.omega_synth_formula.proofs.Strategies.{controllers_realize_formulas}
use Rattle.omega_synth_formula.proofs.laws.controllers_realize_formulas.Goals as goal

pub returns : goal.returns
returns c = controllers_realize_formulas
