-- Runs are carried over place by place.
use Rattle.omega_solve.proofs.within_budget.Lifting.{follows}
use Rattle.omega_solve.proofs.within_budget.Exactness.{exact_here, won_here}
use Rattle.omega_solve.proofs.budget.laws.reorderings_keep_states.Goals as goal

pub returns : goal.returns
returns c = (let z = exact_here in let y = won_here in follows)
