-- `searched_text`: after the runs only memory can refuse.
use Rattle.std.proofs.Common.{◌≡◌}
use Rattle.omega_text.specs.declared.refusal.Refusal.TheVariants.{Memory}
use Rattle.omega_answers_game.proofs.Observing.{game_refused}
use Rattle.omega_answers_game.specs.declared.solve.asked.Asked.TheVariants.{Search}
use Rattle.omega_solve.proofs.within_budget.Observed.{observed_alike, observed_after}
use Rattle.omega_answers_game.proofs.solve.searched.searched_text.Goals as goal

pub returns-in_err-solution-clause-reported : goal.returns-in_err-solution-clause-reported
returns-in_err-solution-clause-reported g c =
    observed_alike _ _ _ _ c.from_residual.result _ c.in_err-solution.field-0.0 _ _ c.from_residual.ensures.1 (λ e same. same)
    (rw c.in_err-solution.was at c.searched_solution.ensures.reported)

pub returns-clause-reported : goal.returns-clause-reported
returns-clause-reported g c =
    observed_after _ _ _ _ c.write_solution.result (λ refusal. refusal ≡ Memory) _ _ c.write_solution.ensures.memory (λ e. cc)
    (λ refusal other. game_refused c.args.game.now Search refusal other) (rw c.in_ok-solution.was at c.searched_solution.ensures.reported)
