-- If the table fits, the game is solved by the run.
use Rattle.std.proofs.Common.{refl, rules, true}
use Rattle.omega_game_values.specs.Game.{priorities}
use Rattle.omega_solve.specs.budget.Within.{IsSolvingRefusal}
use Rattle.omega_solve.proofs.within_budget.Within.{comes_before, refused_where_wide, refused_within, reported_nothing, reported_solving}
use Rattle.omega_solve.proofs.budget.reordered.Reordered.solve.Goals as goal

pub returns-clause-refused : goal.returns-clause-refused
returns-clause-refused g c =
    refused_within c.args.self.now.given c.args.player c.args.budget c.found_observed.result (c.in_ok-solver.ensures.fits (refl {a = true})) c.found_observed.ensures.refused

pub returns-clause-reported : goal.returns-clause-reported
returns-clause-reported g c = reported_solving _ _ c.args.self.now.given c.args.player c.args.budget c.found_observed.result _ _ c.found_observed.ensures.reported

pub returns-in_err-solver-clause-refused : goal.returns-in_err-solver-clause-refused
returns-in_err-solver-clause-refused g c =
    let refused : IsSolvingRefusal c.args.self.now.given c.args.player c.args.budget c.in_err-solver.field-0.0 =
    refused_where_wide c.args.self.now.given c.args.player c.args.budget _ c.in_err-solver.ensures.refused in
    search rules

pub returns-in_err-solver-clause-reported : goal.returns-in_err-solver-clause-reported
returns-in_err-solver-clause-reported g c =
    reported_nothing _ _ c.args.self.now.given c.args.player c.args.budget c.from_residual.result _ c.in_err-solver.field-0.0 _ c.from_residual.ensures.1 (λ e same. same)
    (comes_before (priorities c.args.self.now.given) c.args.player _ c.in_err-solver.ensures.refused)
