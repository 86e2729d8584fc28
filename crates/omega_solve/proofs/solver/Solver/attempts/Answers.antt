-- The takes are bounded, and none is left out once the solver is done.
use Rattle.std.proofs.Common.{ap, arith, subst}
use Rattle.omega_solve.specs.Solver.{SolverState}
use Rattle.omega_solve.specs.private.solving.Progress.{IsSolver}
use Rattle.omega_solve.proofs.lifting.Finishing.{takes_bounded, takes_each}
use Rattle.omega_solve.proofs.solver.Solver.attempts.Goals as goal

pub returns-clause-bounded : goal.returns-clause-bounded
returns-clause-bounded g c =
    let kept = subst (λ (s : SolverState). IsSolver s c.self.inside.won.items c.self.inside.choice.items) c.self.view_is c.self.invariant in
    let taken = ap (λ (s : SolverState). s.pending.taken) c.self.view_is in
    omega (arith, takes_bounded c.args.self.now c.places_are_lifted_boundedly.ensures kept.solving, taken, c.takes.ensures)

pub returns-clause-each : goal.returns-clause-each
returns-clause-each g c done =
    let kept = subst (λ (s : SolverState). IsSolver s c.self.inside.won.items c.self.inside.choice.items) c.self.view_is c.self.invariant in
    let taken = ap (λ (s : SolverState). s.pending.taken) c.self.view_is in
    omega (arith, takes_each c.args.self.now kept.solving (kept.answered.idle done), taken, c.takes.ensures)
