-- Parentheses stand only where they are needed.
use Rattle.omega_acc.proofs.written.FormulaDepths.{no-deeper-acc-written}
use Rattle.omega_acc.proofs.laws.written_formulas_are_shallowest.Goals as goal

pub returns : goal.returns
returns c = no-deeper-acc-written
