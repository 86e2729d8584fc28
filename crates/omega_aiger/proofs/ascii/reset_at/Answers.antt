-- A space, or the end of the line.
use Rattle.std.proofs.Common.{◌+◌, ◌∙◌}
use Rattle.std.proofs.lemmas.Result.{err_from_is_err_and}
use Rattle.omega_aiger.specs.Layout.{byte, number}
use Rattle.omega_aiger.specs.Lines.{reset_end}
use Rattle.omega_aiger.proofs.Steps.{err_says, ok_says, stops_after}
use Rattle.omega_aiger.proofs.ascii.reset_at.Goals as goal

pub returns-then-next_is-clause-read : goal.returns-then-next_is-clause-read
returns-then-next_is-clause-read c =
    ok_says c.number_before.result _ _ (λ found says more. c.next_is.ensures.first c.if-next_is.true (number (λ n. byte 10 (more n))) (byte 10 (more 0)) ∙ says more) c.number_before.ensures.read

pub returns-then-next_is-clause-stops : goal.returns-then-next_is-clause-stops
returns-then-next_is-clause-stops c =
    err_says c.number_before.result _ _ (λ refusal says more. stops_after c.args.text.now c.args.at (c.args.at + 1) (reset_end more) (number (λ n. byte 10 (more n)))
    (c.next_is.ensures.first c.if-next_is.true (number (λ n. byte 10 (more n))) (byte 10 (more 0))) refusal (says more)) c.number_before.ensures.stops

pub returns-in_err-end-clause-stops : goal.returns-in_err-end-clause-stops
returns-in_err-end-clause-stops c =
    let p = err_from_is_err_and c.from_residual.result c.from_residual.ensures.1 in rw (p.1, p.2) (λ more. stops_after c.args.text.now c.args.at c.args.at (reset_end more) (byte 10 (more 0)) (c.next_is.ensures.other c.if-next_is.false (number (λ n. byte 10 (more n))) (byte 10 (more 0))) c.in_err-end.field-0.0 (c.in_err-end.ensures.stops (more 0)))

pub returns-clause-read : goal.returns-clause-read
returns-clause-read c =
    λ more. c.next_is.ensures.other c.if-next_is.false (number (λ n. byte 10 (more n))) (byte 10 (more 0)) ∙ c.in_ok-end.ensures.read (more 0)
