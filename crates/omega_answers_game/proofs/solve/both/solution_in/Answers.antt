-- `solution_in`: runs in turns are not reported to an observer whom no report changes.
use Rattle.std.proofs.Common.{◌≡◌, ◌<◌, None, refl, arith}
use Rattle.omega_text.specs.declared.refusal.Refusal.TheVariants.{Memory}
use Rattle.omega_game_values.specs.declared.player.Player.TheVariants.{One, Zero}
use Rattle.omega_solve.proofs.within_budget.Observed.{none_observed, observed_alike, silent_observed, spares, two_made}
use Rattle.omega_answers_game.proofs.solve.both.solution_in.Goals as goal

pub returns-in_err-turned-clause-reported : goal.returns-in_err-turned-clause-reported
returns-in_err-turned-clause-reported g c =
    observed_alike _ _ _ _ c.from_residual.result _ c.in_err-turned.field-0.0 _ _ c.from_residual.ensures.1 (λ e same. same)
    (none_observed _ _ _ _ _ _ (spares (λ refusal. refusal ≡ Memory) _ c.in_err-turned.ensures.memory (λ e. cc)))

pub returns-in-Some-clause-reported : goal.returns-in-Some-clause-reported
returns-in-Some-clause-reported g c =
    let by_bounds = rw c.in-Some.is at c.in_ok-turned.ensures.right in
    let right = by_bounds c.args.budget (c.if-are_bounds_within.ensures refl) in
    let zero = right.ended Zero in
    let one = right.ended One in
    let some : 0 < g.W.Reporter.pace c.args.reporter.now = omega (arith, c.every-every.ensures.pace, c.every-every.ensures.some) in
    silent_observed _ _ _ c.args.game.now Zero One c.args.budget zero.0 one.0 _ (refl, two_made Zero One None) some
    (c.listens-listens.ensures c.if-not-listens.true) zero.1 one.1

pub returns-in-Some-clause-right : goal.returns-in-Some-clause-right
returns-in-Some-clause-right g c =
    let by_bounds = rw c.in-Some.is at c.in_ok-turned.ensures.right in
    by_bounds c.args.budget (c.if-are_bounds_within.ensures refl)
