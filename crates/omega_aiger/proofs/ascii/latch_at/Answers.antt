-- The literal, and then the next one and the reset.
use Rattle.std.proofs.Common.{◌∙◌}
use Rattle.std.proofs.lemmas.Result.{err_from_is_err_and}
use Rattle.omega_aiger.specs.Lines.{latch_line, latch_of, next_line}
use Rattle.omega_aiger.proofs.Steps.{stops_after}
use Rattle.omega_aiger.proofs.ascii.latch_at.Goals as goal

pub returns-in_err-literal-clause-stops : goal.returns-in_err-literal-clause-stops
returns-in_err-literal-clause-stops c =
    let p = err_from_is_err_and c.from_residual.result c.from_residual.ensures.1 in rw (p.1, p.2) (λ more. c.in_err-literal.ensures.stops (λ literal. next_line (λ following reset. more (latch_of literal following reset))))

pub returns-in_err-next-clause-stops : goal.returns-in_err-next-clause-stops
returns-in_err-next-clause-stops c =
    let p = err_from_is_err_and c.from_residual-in_err-next.result c.from_residual-in_err-next.ensures.1 in rw (p.1, p.2) (λ more. stops_after c.args.text.now c.args.at c.in_ok-literal.end (latch_line more) (next_line (λ following reset. more (latch_of c.in_ok-literal.literal following reset))) (c.in_ok-literal.ensures.read (λ literal. next_line (λ following reset. more (latch_of literal following reset)))) c.in_err-next.field-0.0 (c.in_err-next.ensures.stops (λ following reset. more (latch_of c.in_ok-literal.literal following reset))))

pub returns-clause-read : goal.returns-clause-read
returns-clause-read c =
    λ more. c.in_ok-literal.ensures.read (λ literal. next_line (λ following reset. more (latch_of literal following reset))) ∙ c.in_ok-next.ensures.read (λ following reset. more (latch_of c.in_ok-literal.literal following reset))
