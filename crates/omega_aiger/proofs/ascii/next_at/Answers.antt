-- The next literal and the reset.
use Rattle.std.proofs.Common.{◌∙◌}
use Rattle.std.proofs.lemmas.Result.{err_from_is_err_and}
use Rattle.omega_aiger.specs.Lines.{next_line, reset_end}
use Rattle.omega_aiger.proofs.Steps.{stops_after}
use Rattle.omega_aiger.proofs.ascii.next_at.Goals as goal

pub returns-in_err-next-clause-stops : goal.returns-in_err-next-clause-stops
returns-in_err-next-clause-stops c =
    let p = err_from_is_err_and c.from_residual.result c.from_residual.ensures.1 in rw (p.1, p.2) (λ more. c.in_err-next.ensures.stops (λ following. reset_end (λ reset. more following reset)))

pub returns-in_err-reset-clause-stops : goal.returns-in_err-reset-clause-stops
returns-in_err-reset-clause-stops c =
    let p = err_from_is_err_and c.from_residual-in_err-reset.result c.from_residual-in_err-reset.ensures.1 in rw (p.1, p.2) (λ more. stops_after c.args.text.now c.args.at c.in_ok-next.end (next_line more) (reset_end (λ reset. more c.in_ok-next.next reset)) (c.in_ok-next.ensures.read (λ following. reset_end (λ reset. more following reset))) c.in_err-reset.field-0.0 (c.in_err-reset.ensures.stops (λ reset. more c.in_ok-next.next reset)))

pub returns-clause-read : goal.returns-clause-read
returns-clause-read c =
    λ more. c.in_ok-next.ensures.read (λ following. reset_end (λ reset. more following reset)) ∙ c.in_ok-reset.ensures.read (λ reset. more c.in_ok-next.next reset)
