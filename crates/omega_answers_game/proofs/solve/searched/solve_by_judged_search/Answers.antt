-- `solve_by_judged_search`: what is answered for the game with its predecessors is answered for the game.
use Rattle.std.proofs.Common.{◌≡◌}
use Rattle.omega_text.specs.declared.refusal.Refusal.TheVariants.{Memory}
use Rattle.omega_solve.proofs.within_budget.Observed.{none_observed, spares, observed_alike}
use Rattle.omega_answers_game.proofs.solve.searched.solve_by_judged_search.Goals as goal

pub returns-in_err-whole-clause-reported : goal.returns-in_err-whole-clause-reported
returns-in_err-whole-clause-reported g c =
    observed_alike _ _ _ _ c.from_residual.result _ c.in_err-whole.field-0.0 _ _ c.from_residual.ensures.1 (λ e same. same)
    (none_observed _ _ _ _ _ _ (spares (λ refusal. refusal ≡ Memory) _ c.in_err-whole.ensures.memory (λ e. cc)))

pub returns-clause-answer : goal.returns-clause-answer
returns-clause-answer g c = rw c.in_ok-whole.ensures.game at c.searched_text-text.ensures.answer

pub returns-clause-refused : goal.returns-clause-refused
returns-clause-refused g c = rw c.in_ok-whole.ensures.game at c.searched_text-text.ensures.refused

pub returns-clause-reported : goal.returns-clause-reported
returns-clause-reported g c = rw c.in_ok-whole.ensures.game at c.searched_text-text.ensures.reported
