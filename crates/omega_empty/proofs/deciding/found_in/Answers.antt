-- `found_in`: what is said of the game that was given to be reordered is said of this game.
use Rattle.std.proofs.Common.{◌≡◌, subst}
use Rattle.std.proofs.lemmas.Result.{IfErr-weaker}
use Rattle.omega_game_values.specs.declared.player.Player.TheVariants.{Zero}
use Rattle.omega_text.specs.declared.refusal.Refusal.TheVariants.{Memory}
use Rattle.omega_solve.specs.budget.Within.{IsSolvingRefusal}
use Rattle.omega_solve.proofs.within_budget.Observed.{none_observed, one_made, one_solved, spares, observed_alike}
use Rattle.omega_empty.proofs.walking.Refused.{found_solved}
use Rattle.omega_empty.proofs.deciding.found_in.Goals as goal

pub returns-clause-solved : goal.returns-clause-solved
returns-clause-solved g c =
    found_solved c.args.budget _ _ c.solve.result c.in_ok-reordered.ensures.given c.solve.ensures.fits c.solve.ensures.found

pub returns-clause-refused : goal.returns-clause-refused
returns-clause-refused g c =
    IfErr-weaker c.solve.result _ _
    (λ refusal h. subst (λ game. IsSolvingRefusal game Zero c.args.budget refusal) c.in_ok-reordered.ensures.given h)
    c.solve.ensures.refused

pub returns-in_err-reordered-clause-reported : goal.returns-in_err-reordered-clause-reported
returns-in_err-reordered-clause-reported g c =
    observed_alike _ _ _ _ c.from_residual.result _ c.in_err-reordered.field-0.0 _ _ c.from_residual.ensures.1 (λ e same. same)
    (none_observed _ _ _ _ _ _ (spares (λ refusal. refusal ≡ Memory) _ c.in_err-reordered.ensures.memory (λ e. cc)))

pub returns-clause-reported : goal.returns-clause-reported
returns-clause-reported g c =
    one_solved _ _ _ c.in_ok-reordered.reordered.given Zero c.args.budget c.solve.result _ _ (c.in_ok-reordered.ensures.given, one_made Zero _)
    c.solve.ensures.reported
