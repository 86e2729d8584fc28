-- A lift is one towards the successor given, and keeps what a solver keeps.
use Rattle.std.proofs.Common.{◌+◌, ◌≤◌, ◌∙◌, ap, arith, subst, sym}
use Rattle.omega_lift_schedules.specs.Schedule.{IsPending, Pending}
use Rattle.omega_solve.specs.Solver.{SolverState, solver_state}
use Rattle.omega_solve.specs.private.solving.Progress.{IsLifted}
use Rattle.omega_solve.specs.Limits.{most_lifts}
use Rattle.omega_solve.specs.private.solving.Repeating.{LiftsAgain}
use Rattle.omega_solve.specs.private.solving.Successor.{IsDueTowards}
use Rattle.omega_solve.proofs.lifting.Due.{table_entries}
use Rattle.omega_solve.proofs.lifting.Finishing.{takes_fit, takes_leave}
use Rattle.omega_solve.proofs.lifting.Lifting.{due_exceeds, solving_lifted, some_lifted, table_raised}
use Rattle.omega_solve.proofs.lifting.Starting.{answered_open}
use Rattle.omega_solve.proofs.solver.Solver.lift.Goals as goal

pub raise-requires-clause-towards : goal.raise-requires-clause-towards
raise-requires-clause-towards g c =
    let inside = c.self.inside in
    let state =
    solver_state inside.game.now inside.player (g.T.MeasureTable.content inside.table) (g.S.Schedule.waiting inside.schedule) inside.lifts inside.done in
    let due = subst (λ (s : SolverState). IsDueTowards s.nodes s.player s.table.measures c.args.place c.args.towards) (sym c.self.view_is) c.requires.due in
    let solving = c.self.invariant.solving in
    omega (
      arith,
      solving.game.closed c.args.place c.args.towards due.listed,
      table_entries state.nodes state.player state.table solving.content,
    )

pub raise-requires-clause-due : goal.raise-requires-clause-due
raise-requires-clause-due g c =
    let inside = c.self.inside in
    let state =
    solver_state inside.game.now inside.player (g.T.MeasureTable.content inside.table) (g.S.Schedule.waiting inside.schedule) inside.lifts inside.done in
    due_exceeds state.nodes state.player state.table c.args.place c.args.towards c.self.invariant.solving.content
    (subst (λ (s : SolverState). IsDueTowards s.nodes s.player s.table.measures c.args.place c.args.towards) (sym c.self.view_is) c.requires.due)

pub take-requires-clause-counted : goal.take-requires-clause-counted
take-requires-clause-counted g c = takes_fit _ c.self.invariant.solving

pub lift_again-more-requires-clause-table : goal.lift_again-more-requires-clause-table
lift_again-more-requires-clause-table g c =
    let inside = c.self.inside in
    let state =
    solver_state inside.game.now inside.player (g.T.MeasureTable.content inside.table) (g.S.Schedule.waiting inside.schedule) inside.lifts inside.done in
    table_raised state.nodes state.player state.table (g.T.MeasureTable.content c.raise.new.self) c.args.place c.args.towards
    c.allowances_are_unique.ensures c.runs_keep_tables.ensures c.self.invariant.solving.content
    (subst (λ (s : SolverState). IsDueTowards s.nodes s.player s.table.measures c.args.place c.args.towards) (sym c.self.view_is) c.requires.due)
    c.raise.ensures

pub lift_again-more-requires-clause-counted : goal.lift_again-more-requires-clause-counted
lift_again-more-requires-clause-counted g c =
    let room : c.self.inside.lifts + c.args.most ≤ most_lifts = subst (λ (s : SolverState). s.lifts + c.args.most ≤ most_lifts) (sym c.self.view_is) c.requires.room in
    omega (arith, takes_leave _ c.self.invariant.solving, ap (λ (p : Pending). p.taken) c.take.ensures)

pub invariant_of-self : goal.invariant_of-self
invariant_of-self g c =
    let inside = c.self.inside in
    let state =
    solver_state inside.game.now inside.player (g.T.MeasureTable.content inside.table) (g.S.Schedule.waiting inside.schedule) inside.lifts inside.done in
    let due = subst (λ (s : SolverState). IsDueTowards s.nodes s.player s.table.measures c.args.place c.args.towards) (sym c.self.view_is) c.requires.due in
    let new = g.T.MeasureTable.content c.raise.new.self in
    let content = g.T.MeasureTable.content c.lift_again-more.new.table in
    let again = g.S.Schedule.waiting c.lift_again-more.new.schedule in
    let more = subst (λ (p : Pending). LiftsAgain state.nodes state.player c.args.place c.lift_again-more.result new content p again)
    c.take.ensures c.lift_again-more.ensures.lifted in
    let room = subst (λ (s : SolverState). s.lifts + c.args.most ≤ most_lifts) (sym c.self.view_is) c.requires.room in
    record {
      solving = solving_lifted state c.args.place c.args.towards c.lift_again-more.result new content again
          (g.S.Schedule.waiting c.wake_predecessors.new.schedule) c.allowances_are_unique.ensures c.self.invariant.solving due
          (subst (λ (s : SolverState). IsPending s.pending c.args.place) (sym c.self.view_is) c.requires.pending)
          (omega (arith, room, c.lift_again-more.ensures.within, c.requires.some))
          c.raise.ensures more c.wake_predecessors.ensures;
      answered = answered_open _ c.self.inside.won.items c.self.inside.choice.items
          (ap (λ (s : SolverState). s.done) c.self.view_is ∙ c.requires.done)
          c.self.invariant.answered.won_entries c.self.invariant.answered.choice_entries;
    }

pub returns : goal.returns
returns g c =
    let inside = c.self.inside in
    let state =
    solver_state inside.game.now inside.player (g.T.MeasureTable.content inside.table) (g.S.Schedule.waiting inside.schedule) inside.lifts inside.done in
    let due = subst (λ (s : SolverState). IsDueTowards s.nodes s.player s.table.measures c.args.place c.args.towards) (sym c.self.view_is) c.requires.due in
    let new = g.T.MeasureTable.content c.raise.new.self in
    let content = g.T.MeasureTable.content c.lift_again-more.new.table in
    let again = g.S.Schedule.waiting c.lift_again-more.new.schedule in
    let woken = g.S.Schedule.waiting c.wake_predecessors.new.schedule in
    let count = c.lift_again-more.result in
    let more = subst (λ (p : Pending). LiftsAgain state.nodes state.player c.args.place count new content p again)
    c.take.ensures c.lift_again-more.ensures.lifted in
    subst
    (λ (s : SolverState). IsLifted s c.args.most (1 + count) (solver_state state.nodes state.player content woken (state.lifts + (1 + count)) state.done))
    c.self.view_is
    (some_lifted state c.args.place c.args.towards c.args.most count new content again woken c.allowances_are_unique.ensures
    c.self.invariant.solving due c.raise.ensures c.lift_again-more.ensures.within c.requires.some more c.wake_predecessors.ensures)
