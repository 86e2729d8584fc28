-- `lifted_solution`: what was found for both players is a right solution, and what was refused is a fault of the game.
use Rattle.std.proofs.Common.{◌≡◌, None, Ok, Err, refl, rules}
use Rattle.omega_game_values.specs.declared.player.Player.TheVariants.{One, Zero}
use Rattle.omega_text.specs.declared.refusal.Refusal.TheVariants.{Memory}
use Rattle.omega_answers_game.specs.declared.solve.asked.Asked.TheVariants.{Both}
use Rattle.omega_answers_game.specs.solve.Refusing.{IsSolveGameRefusal}
use Rattle.omega_answers_game.proofs.Solving.{found_for, refused-solving, solving_for, reported_for}
use Rattle.omega_answers_game.proofs.Solutions.{right_solution}
use Rattle.omega_solve.proofs.within_budget.Observed.{first_made, one_solved, run_refused, spares, two_made, two_solved, two_observed, observed_alike}
use Rattle.omega_answers_game.proofs.solve.both.lifted_solution.Goals as goal

pub returns-in_err-zero-clause-refused : goal.returns-in_err-zero-clause-refused
returns-in_err-zero-clause-refused g c =
    let refused : IsSolveGameRefusal c.args.game.now Both None c.args.budget c.in_err-zero.field-0.0 =
    refused-solving c.args.game.now Both Zero c.args.budget _ (λ fits other _. c.requires.narrow other) tt
    (solving_for _ _ c.requires.given Zero c.args.budget _ c.in_err-zero.ensures.refused) in
    search rules

pub returns-in_err-zero-clause-reported : goal.returns-in_err-zero-clause-reported
returns-in_err-zero-clause-reported g c =
    observed_alike _ _ _ _ c.from_residual.result _ c.in_err-zero.field-0.0 _ _ c.from_residual.ensures.1 (λ e same. same)
    (one_solved _ _ _ c.args.game.now Zero c.args.budget (Err c.in_err-zero.field-0.0) _ _ (refl, first_made Zero One _)
    (reported_for _ _ c.requires.given Zero _ _ _ (Err c.in_err-zero.field-0.0) _ _ (rw c.in_err-zero.was at c.solve.ensures.reported)))

pub returns-in_err-one-clause-refused : goal.returns-in_err-one-clause-refused
returns-in_err-one-clause-refused g c =
    let refused : IsSolveGameRefusal c.args.game.now Both None c.args.budget c.in_err-one.field-0.0 =
    refused-solving c.args.game.now Both One c.args.budget _ (λ fits other _. c.requires.narrow other) tt
    (solving_for _ _ c.requires.given One c.args.budget _ c.in_err-one.ensures.refused) in
    search rules

pub returns-in_err-one-clause-reported : goal.returns-in_err-one-clause-reported
returns-in_err-one-clause-reported g c =
    observed_alike _ _ _ _ c.from_residual-in_err-one.result _ c.in_err-one.field-0.0 _ _ c.from_residual-in_err-one.ensures.1 (λ e same. same)
    (two_solved _ _ _ c.args.game.now Zero One c.args.budget _ (Err c.in_err-one.field-0.0) _ _ _ (refl, two_made Zero One _) (refl, first_made Zero One _)
    (reported_for _ _ c.requires.given Zero _ _ _ (Ok c.in_ok-zero.zero) _ _ (rw c.in_ok-zero.was at c.solve.ensures.reported))
    (reported_for _ _ c.requires.given One _ _ _ (Err c.in_err-one.field-0.0) _ _ (rw c.in_err-one.was at c.solve-2.ensures.reported)))

pub returns-in_err-solution-clause-reported : goal.returns-in_err-solution-clause-reported
returns-in_err-solution-clause-reported g c =
    observed_alike _ _ _ _ c.from_residual-in_err-solution.result _ c.in_err-solution.field-0.0 _ _ c.from_residual-in_err-solution.ensures.1
    (λ e same. same)
    (two_observed _ _ _ c.args.game.now Zero One c.args.budget _ _ _ _ _ _ (refl, two_made Zero One _)
    (reported_for _ _ c.requires.given Zero _ _ _ (Ok c.in_ok-zero.zero) _ _ (rw c.in_ok-zero.was at c.solve.ensures.reported))
    (run_refused _ _ _ _ _ _ _ _ _ (spares (λ refusal. refusal ≡ Memory) _ c.in_err-solution.ensures.memory (λ e. cc))
    (reported_for _ _ c.requires.given One _ _ _ (Ok c.in_ok-one.one) _ _ (rw c.in_ok-one.was at c.solve-2.ensures.reported))))

pub returns-clause-right : goal.returns-clause-right
returns-clause-right g c =
    let same = c.requires.given in
    let narrow = c.requires.narrow in
    right_solution c.args.game.now c.args.budget c.in_ok-zero.zero c.in_ok-one.one _ c.keeps_limits.ensures.game
    (narrow Zero) (narrow One) (found_for _ _ same Zero c.args.budget _ c.in_ok-zero.ensures.found) (found_for _ _ same One c.args.budget _ c.in_ok-one.ensures.found)
    c.in_ok-solution.ensures.winners c.in_ok-solution.ensures.zero
    c.in_ok-solution.ensures.one c.regions_are_apart.ensures c.regions_cover.ensures

pub returns-clause-reported : goal.returns-clause-reported
returns-clause-reported g c =
    two_observed _ _ _ c.args.game.now Zero One c.args.budget _ _ _ _ _ _ (refl, two_made Zero One None)
    (reported_for _ _ c.requires.given Zero _ _ _ (Ok c.in_ok-zero.zero) _ _ (rw c.in_ok-zero.was at c.solve.ensures.reported))
    (reported_for _ _ c.requires.given One _ _ _ (Ok c.in_ok-one.one) _ _ (rw c.in_ok-one.was at c.solve-2.ensures.reported))
