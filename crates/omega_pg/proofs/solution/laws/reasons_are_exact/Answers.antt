-- There is a reason for `BadSolution` exactly if no solution is written so.
use Rattle.omega_pg.proofs.solutions.Apart.{reasons_exact}
use Rattle.omega_pg.proofs.solution.laws.reasons_are_exact.Goals as goal

pub returns : goal.returns
returns c = reasons_exact
