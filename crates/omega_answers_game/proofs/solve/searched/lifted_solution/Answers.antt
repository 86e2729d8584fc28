-- `lifted_solution`: turns are not reported to an observer whom no report changes.
use Rattle.std.proofs.Common.{None, rules}
use Rattle.omega_answers_game.specs.declared.solve.asked.Asked.TheVariants.{Both, Search}
use Rattle.omega_answers_game.specs.solve.Refusing.{IsSolveGameRefusal, IsWideRefusal}
use Rattle.omega_solve.proofs.within_budget.Observed.{none_observed, spares, observed_alike}
use Rattle.omega_answers_game.proofs.Observing.{both_lifted, search_observed}
use Rattle.omega_answers_game.proofs.TurningGames.{search_refused}
use Rattle.omega_answers_game.proofs.solve.searched.lifted_solution.Goals as goal

pub returns-in_err-turned-clause-refused : goal.returns-in_err-turned-clause-refused
returns-in_err-turned-clause-refused g c =
    let refused : IsSolveGameRefusal c.args.game.now Search None c.args.budget c.in_err-turned.field-0.0 =
    search_refused c.args.game.now c.args.budget c.in_err-turned.field-0.0 c.in_err-turned.ensures.refused in
    search rules

pub returns-in_err-turned-clause-reported : goal.returns-in_err-turned-clause-reported
returns-in_err-turned-clause-reported g c =
    observed_alike _ _ _ _ c.from_residual.result _ c.in_err-turned.field-0.0 _ _ c.from_residual.ensures.1 (λ e same. same)
    (none_observed _ _ _ _ _ _ (spares (IsWideRefusal c.args.game.now Both) _ c.in_err-turned.ensures.refused (λ no. (let e = no.0 in cc))))

pub returns-in-Some-clause-reported : goal.returns-in-Some-clause-reported
returns-in-Some-clause-reported g c = search_observed c.args.game.now _ _ _ _

pub returns-clause-reported : goal.returns-clause-reported
returns-clause-reported g c = both_lifted c.args.game.now _ _ _ _ _ _ c.solution_of.ensures.reported
