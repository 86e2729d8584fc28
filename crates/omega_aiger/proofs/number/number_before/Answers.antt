-- The number and then the byte.
use Rattle.std.proofs.Common.{◌∙◌}
use Rattle.std.proofs.lemmas.Result.{err_from_is_err_and}
use Rattle.omega_aiger.specs.Layout.{byte, number}
use Rattle.omega_aiger.proofs.Steps.{stops_after}
use Rattle.omega_aiger.proofs.number.number_before.Goals as goal

pub returns-in_err-value-clause-stops : goal.returns-in_err-value-clause-stops
returns-in_err-value-clause-stops c =
    let p = err_from_is_err_and c.from_residual.result c.from_residual.ensures.1 in rw (p.1, p.2) (λ more. c.in_err-value.ensures.stops (λ n. byte c.args.ender (more n)))

pub returns-in_err-end-clause-stops : goal.returns-in_err-end-clause-stops
returns-in_err-end-clause-stops c =
    let p = err_from_is_err_and c.from_residual-in_err-end.result c.from_residual-in_err-end.ensures.1 in rw (p.1, p.2) (λ more. stops_after c.args.text.now c.args.at c.in_ok-value.end (number (λ n. byte c.args.ender (more n))) (byte c.args.ender (more c.in_ok-value.value)) (c.in_ok-value.ensures.read (λ n. byte c.args.ender (more n))) c.in_err-end.field-0.0 (c.in_err-end.ensures.stops (more c.in_ok-value.value)))

pub returns-clause-read : goal.returns-clause-read
returns-clause-read c =
    λ more. c.in_ok-value.ensures.read (λ n. byte c.args.ender (more n)) ∙ c.in_ok-end.ensures.read (more c.in_ok-value.value)
