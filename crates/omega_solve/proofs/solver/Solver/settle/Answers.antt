-- A take of a place at which no lift is due keeps what a solver keeps.
use Rattle.std.proofs.Common.{◌∙◌, ap, subst, sym}
use Rattle.omega_lift_schedules.specs.Schedule.{IsPending}
use Rattle.omega_solve.specs.Solver.{SolverState}
use Rattle.omega_lift_laws.specs.Run.{IsDue}
use Rattle.omega_solve.proofs.lifting.Finishing.{takes_fit}
use Rattle.omega_solve.proofs.lifting.Lifting.{solving_settled}
use Rattle.omega_solve.proofs.lifting.Starting.{answered_open}
use Rattle.omega_solve.proofs.solver.Solver.settle.Goals as goal

pub take-requires-clause-counted : goal.take-requires-clause-counted
take-requires-clause-counted g c = takes_fit _ c.self.invariant.solving

pub invariant_of-self : goal.invariant_of-self
invariant_of-self g c = record {
  solving = solving_settled _ c.args.place (g.S.Schedule.waiting c.take.new.self) c.self.invariant.solving
      (subst (λ (s : SolverState). IsPending s.pending c.args.place) (sym c.self.view_is) c.requires.pending)
      (subst (λ (s : SolverState). ¬ IsDue s.nodes s.player s.table.measures c.args.place) (sym c.self.view_is) c.requires.settled)
      c.take.ensures;
  answered = answered_open _ c.self.inside.won.items c.self.inside.choice.items
      (ap (λ (s : SolverState). s.done) c.self.view_is ∙ c.requires.done)
      c.self.invariant.answered.won_entries c.self.invariant.answered.choice_entries;
}
