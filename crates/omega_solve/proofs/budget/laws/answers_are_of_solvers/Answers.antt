-- The lifting run of the answer is a call of `run` with the whole budget.
use Rattle.omega_solve.proofs.within_budget.Dealing.{answer_of_solver}
use Rattle.omega_solve.proofs.budget.laws.answers_are_of_solvers.Goals as goal

pub returns : goal.returns
returns c nodes player budget found is = answer_of_solver nodes player budget found is
