-- `solution_of`: a game that is too wide for neither player is solved in an order of its own.
use Rattle.std.proofs.Common.{◌≡◌, None, rules}
use Rattle.omega_text.specs.declared.refusal.Refusal.TheVariants.{Memory}
use Rattle.omega_answers_game.specs.declared.solve.asked.Asked.TheVariants.{Both}
use Rattle.omega_answers_game.specs.solve.Refusing.{IsSolveGameRefusal}
use Rattle.omega_answers_game.proofs.Solving.{refused-wide}
use Rattle.omega_solve.proofs.within_budget.Observed.{none_observed, spares, observed_alike}
use Rattle.omega_answers_game.proofs.solve.both.solution_of.Goals as goal

pub returns-in_err-fits_both-clause-refused : goal.returns-in_err-fits_both-clause-refused
returns-in_err-fits_both-clause-refused g c =
    let refused : IsSolveGameRefusal c.args.game.now Both None c.args.budget c.in_err-fits_both.field-0.0 =
    refused-wide c.args.game.now Both c.args.budget _ c.in_err-fits_both.ensures.refused in
    search rules

pub returns-in_err-fits_both-clause-reported : goal.returns-in_err-fits_both-clause-reported
returns-in_err-fits_both-clause-reported g c =
    observed_alike _ _ _ _ c.from_residual.result _ c.in_err-fits_both.field-0.0 _ _ c.from_residual.ensures.1 (λ e same. same)
    (none_observed _ _ _ _ _ _ (λ e. let same = c.in_err-fits_both.ensures.refused.0 in cc))

pub returns-in_err-reordered-clause-reported : goal.returns-in_err-reordered-clause-reported
returns-in_err-reordered-clause-reported g c =
    observed_alike _ _ _ _ c.from_residual-in_err-reordered.result _ c.in_err-reordered.field-0.0 _ _ c.from_residual-in_err-reordered.ensures.1 (λ e same. same)
    (none_observed _ _ _ _ _ _ (spares (λ refusal. refusal ≡ Memory) _ c.in_err-reordered.ensures.memory (λ e. cc)))
