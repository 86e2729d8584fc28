-- If no place is pending, no lift is due.
use Rattle.std.proofs.Common.{◌<◌, length, subst}
use Rattle.std.specs.Option.{MatchOption}
use Rattle.omega_solve.specs.Solver.{SolverState}
use Rattle.omega_solve.specs.Solver.{IsFinished}
use Rattle.omega_solve.proofs.lifting.Finishing.{looked}
use Rattle.omega_solve.proofs.solver.Solver.next.Goals as goal

pub returns-clause-finished : goal.returns-clause-finished
returns-clause-finished g c =
    subst (λ (s : SolverState). MatchOption c.look.result (IsFinished s) (λ place. place < length s.nodes)) c.self.view_is
    (looked _ c.look.result c.self.invariant.solving c.look.ensures)
