-- No lift is due when the answer is filled in.
use Rattle.std.proofs.Common.{sym, subst}
use Rattle.omega_solve.specs.Solver.{SolverState}
use Rattle.omega_solve.specs.Solver.{IsFinished}
use Rattle.omega_solve.proofs.solver.Solver.finish.Goals as goal

pub fill_answer-requires-clause-finished : goal.fill_answer-requires-clause-finished
fill_answer-requires-clause-finished g c = subst (λ (s : SolverState). IsFinished s) (sym c.self.view_is) c.requires.finished
