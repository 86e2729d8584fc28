-- `solve_one`: if the game is not reordered, nothing is reported.
use Rattle.std.proofs.Common.{◌≡◌}
use Rattle.omega_text.specs.declared.refusal.Refusal.TheVariants.{Memory}
use Rattle.omega_solve.proofs.within_budget.Observed.{none_observed, spares, observed_alike}
use Rattle.omega_answers_game.proofs.solve.one.solve_one.Goals as goal

pub returns-in_err-reordered-clause-reported : goal.returns-in_err-reordered-clause-reported
returns-in_err-reordered-clause-reported g c =
    observed_alike _ _ _ _ c.from_residual.result _ c.in_err-reordered.field-0.0 _ _ c.from_residual.ensures.1 (λ e same. same)
    (none_observed _ _ _ _ _ _ (spares (λ refusal. refusal ≡ Memory) _ c.in_err-reordered.ensures.memory (λ e. cc)))
