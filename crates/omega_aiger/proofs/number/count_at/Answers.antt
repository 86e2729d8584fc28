-- The space and then the number.
use Rattle.std.proofs.Common.{◌∙◌}
use Rattle.std.proofs.lemmas.Result.{err_from_is_err_and}
use Rattle.omega_aiger.specs.Forms.{count_then}
use Rattle.omega_aiger.specs.Layout.{number}
use Rattle.omega_aiger.proofs.Steps.{err_says, ok_says, stops_after}
use Rattle.omega_aiger.proofs.number.count_at.Goals as goal

pub returns-in_err-start-clause-stops : goal.returns-in_err-start-clause-stops
returns-in_err-start-clause-stops c =
    let p = err_from_is_err_and c.from_residual.result c.from_residual.ensures.1 in rw (p.1, p.2) (λ more. c.in_err-start.ensures.stops (number more))

pub returns-clause-read : goal.returns-clause-read
returns-clause-read c =
    ok_says c.number_at.result _ _ (λ found says more. c.in_ok-start.ensures.read (number more) ∙ says more) c.number_at.ensures.read

pub returns-clause-stops : goal.returns-clause-stops
returns-clause-stops c =
    err_says c.number_at.result _ _ (λ refusal says more. stops_after c.args.text.now c.args.at c.in_ok-start.start (count_then more) (number more) (c.in_ok-start.ensures.read (number more)) refusal (says more)) c.number_at.ensures.stops
