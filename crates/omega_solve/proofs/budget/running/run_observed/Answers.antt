-- The run ends in one of its slices, with no lift due, or after the whole ones with the rest of the budget.
use Rattle.std.proofs.Common.{◌-◌, ℕ, arith, subst}
use Rattle.omega_solve.specs.declared.outcome.Outcome.TheVariants.{Done}
use Rattle.omega_solve.specs.budget.Observing.{IsReported}
use Rattle.omega_solve.proofs.within_budget.Within.{reports_so, run_lifted}
use Rattle.omega_solve.proofs.budget.running.run_observed.Goals as goal

pub returns-in-Done-clause-lifted : goal.returns-in-Done-clause-lifted
returns-in-Done-clause-lifted g c =
    let kept = c.loop-made.invariant in
    let ran = c.in-Done.ensures in
    run_lifted c.args.game.now c.args.player c.loop-made.made c.every-every.result c.args.budget c.args.solver.now c.loop-made.solver
    c.run.new.self Done c.requires.fresh kept.same_nodes kept.same_player kept.counted ran.ran ran.reached ran.bounded ran.reported
    (omega (arith, c.loop-made-test.true, kept.within)) (λ spent. cc)

pub returns-clause-lifted : goal.returns-clause-lifted
returns-clause-lifted g c =
    let kept = c.loop-made.invariant in
    let ran = c.run-2.ensures in
    run_lifted c.args.game.now c.args.player c.loop-made.made (c.args.budget - c.loop-made.made) c.args.budget c.args.solver.now c.loop-made.solver
    c.run-2.new.self c.run-2.result c.requires.fresh kept.same_nodes kept.same_player kept.counted ran.ran ran.reached ran.bounded ran.reported
    (omega (arith, kept.within)) (λ spent. omega (arith, kept.within))

pub returns-in-Done-clause-reported : goal.returns-in-Done-clause-reported
returns-in-Done-clause-reported g c =
    let kept = c.loop-made.invariant in
    let ran = c.in-Done.ensures in
    subst (λ (every : ℕ). IsReported (g.W.Reporter.tells c.args.reporter.now) c.args.player every c.args.most Done c.run.new.self.lifts c.args.observer.now c.loop-made.observer)
    c.every-every.ensures.pace
    (record {
      times = kept.reported.0;
      reports = reports_so c.loop-made.solver c.run.new.self Done kept.reported.0 c.every-every.result c.every-every.result (omega (arith, kept.counted, kept.reported.1))
          kept.reported.2 ran.ran ran.reported (omega arith) (λ spent. cc);
      reported = kept.reported.3;
    })

pub returns-clause-reported : goal.returns-clause-reported
returns-clause-reported g c =
    let kept = c.loop-made.invariant in
    let ran = c.run-2.ensures in
    subst (λ (every : ℕ). IsReported (g.W.Reporter.tells c.args.reporter.now) c.args.player every c.args.most c.run-2.result c.run-2.new.self.lifts c.args.observer.now c.loop-made.observer)
    c.every-every.ensures.pace
    (record {
      times = kept.reported.0;
      reports = reports_so c.loop-made.solver c.run-2.new.self c.run-2.result kept.reported.0 c.every-every.result (c.args.budget - c.loop-made.made)
          (omega (arith, kept.counted, kept.reported.1)) kept.reported.2 ran.ran ran.reported (omega (arith, c.loop-made-test.false)) (λ spent. omega (arith, c.loop-made-test.false));
      reported = kept.reported.3;
    })
