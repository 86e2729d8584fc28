-- one condition after the other
use Rattle.omega_lang_lasso_check.proofs.Deciding.{one_fault}
use Rattle.omega_lang_lasso_check.proofs.laws.lasso_faults_are_one.Goals as goal

pub returns : goal.returns
returns c = one_fault
