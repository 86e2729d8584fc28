-- `searched_solution`: if nothing is lifted, nothing is reported.
use Rattle.std.proofs.Common.{◌≡◌}
use Rattle.omega_text.specs.declared.refusal.Refusal.TheVariants.{Memory}
use Rattle.omega_solve.proofs.within_budget.Observed.{none_observed, spares, observed_alike}
use Rattle.omega_answers_game.proofs.Observing.{search_observed}
use Rattle.omega_answers_game.proofs.solve.searched.searched_solution.Goals as goal

pub returns-in_err-searched-clause-reported : goal.returns-in_err-searched-clause-reported
returns-in_err-searched-clause-reported g c =
    observed_alike _ _ _ _ c.from_residual.result _ c.in_err-searched.field-0.0 _ _ c.from_residual.ensures.1 (λ e same. same)
    (none_observed _ _ _ _ _ _ (spares (λ refusal. refusal ≡ Memory) _ c.in_err-searched.ensures.memory (λ e. cc)))

pub returns-in-Some-clause-reported : goal.returns-in-Some-clause-reported
returns-in-Some-clause-reported g c = search_observed c.args.game.now _ _ _ _

pub returns-in-None-clause-reported : goal.returns-in-None-clause-reported
returns-in-None-clause-reported g c = rw c.forward_game.ensures at c.lifted_solution.ensures.reported
