-- A new solver keeps what a solver keeps.
use Rattle.std.proofs.Common.{◌≡◌, ◌∙◌, false, ap, length, refl, subst, sym}
use Rattle.omega_game_values.specs.Game.{priorities}
use Rattle.omega_measure.specs.Table.{Content, zero_content}
use Rattle.omega_lift_schedules.specs.Schedule.{Pending, all_pending}
use Rattle.omega_solve.specs.Solver.{SolverState, start_of, solver_state}
use Rattle.omega_solve.specs.private.solving.Progress.{IsSolving}
use Rattle.omega_solve.proofs.lifting.Starting.{answered_open, solving_start}
use Rattle.omega_solve.proofs.solver.Solver.of_parts.Goals as goal

pub invariant_of-result : goal.invariant_of-result
invariant_of-result g c =
    let nodes = c.args.game.now in
    let content = g.T.MeasureTable.content c.args.table in
    let pending = g.S.Schedule.waiting c.args.schedule in
    let state = solver_state nodes c.args.player content pending 0 false in
    let all : pending ≡ all_pending (length nodes) = c.requires.all in
    let is_start : state ≡ start_of nodes c.args.player =
    ap (λ (t : Content). solver_state nodes c.args.player t pending 0 false)
    c.requires.zero
    ∙ ap (λ (p : Pending). solver_state nodes c.args.player (zero_content c.args.player (priorities nodes)) p 0 false) all in
    record {
      solving = subst (λ (s : SolverState). IsSolving s) (sym is_start)
          (solving_start nodes c.args.player c.zero_tables_are_tables.ensures c.len-n.ensures.game c.len-n.ensures.limits);
      answered = answered_open state c.in_ok-vec.field-0.items c.in_ok-vec-2.field-0.items refl
          (sym c.in_ok-vec.field-0.ok.0 ∙ (c.in_ok-vec.ensures.len ∙ c.len-n.ensures.count))
          (sym c.in_ok-vec-2.field-0.ok.0 ∙ (c.in_ok-vec-2.ensures.len ∙ c.len-n.ensures.count));
    }
