-- a fault of lifting is one of the rounds, and without a run there is no report
use Rattle.std.proofs.Common.{◌≡◌, refl, subst}
use Rattle.std.proofs.lemmas.Result.{err_from_is_err_and}
use Rattle.omega_text.specs.declared.refusal.Refusal.TheVariants.{Memory}
use Rattle.omega_solve.proofs.within_budget.Observed.{none_observed, observed_alike, spares}
use Rattle.omega_solve.specs.Turns.{IsNarrow}
use Rattle.omega_synth_realize.specs.Solving.{IsWidthRefusal}
use Rattle.omega_synth_realize.proofs.Strategies.{lifting_refused, wide_refused}
use Rattle.omega_synth_realize.proofs.lifting.lift_in.Goals as goal

pub lifted_outcome-requires-clause-narrow : goal.lifted_outcome-requires-clause-narrow
lifted_outcome-requires-clause-narrow g c = subst IsNarrow c.forward_game.ensures (c.in_ok-fits_both.ensures.narrow refl)

pub returns-in_err-fits_both-clause-refused : goal.returns-in_err-fits_both-clause-refused
returns-in_err-fits_both-clause-refused g c =
    let p = err_from_is_err_and c.from_residual.result c.from_residual.ensures.1 in
    rw (p.1, p.2)
    (wide_refused c.in_err-fits_both.field-0.0 c.args.rounds.now c.args.game.now c.args.start c.args.budget c.requires.fits c.requires.game
    (rw c.forward_game.ensures at c.in_err-fits_both.ensures.refused))

pub returns-in_err-fits_both-clause-reported : goal.returns-in_err-fits_both-clause-reported
returns-in_err-fits_both-clause-reported g c =
    observed_alike _ _ _ _ c.from_residual.result _ c.in_err-fits_both.field-0.0 _ _ c.from_residual.ensures.1 (λ e same. same)
    (none_observed _ _ _ _ _ _ (spares (IsWidthRefusal c.forward_game.result.now) _ c.in_err-fits_both.ensures.refused (λ no. (let e = no.0 in cc))))

pub returns-in_err-reordered-clause-reported : goal.returns-in_err-reordered-clause-reported
returns-in_err-reordered-clause-reported g c =
    observed_alike _ _ _ _ c.from_residual-in_err-reordered.result _ c.in_err-reordered.field-0.0 _ _
    c.from_residual-in_err-reordered.ensures.1 (λ e same. same)
    (none_observed _ _ _ _ _ _ (spares (λ refusal. refusal ≡ Memory) _ c.in_err-reordered.ensures.memory (λ e. cc)))

pub returns-clause-refused : goal.returns-clause-refused
returns-clause-refused g c =
    lifting_refused c.lifted_outcome.result c.args.rounds.now c.args.game.now c.args.start c.args.budget c.requires.fits c.requires.game c.lifted_outcome.ensures.refused
