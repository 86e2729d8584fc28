-- The literal and the operands.
use Rattle.std.proofs.Common.{◌∙◌}
use Rattle.std.proofs.lemmas.Result.{err_from_is_err_and}
use Rattle.omega_aiger.specs.Layout.{byte, number}
use Rattle.omega_aiger.specs.Lines.{gate_line, gate_of}
use Rattle.omega_aiger.proofs.Steps.{stops_after}
use Rattle.omega_aiger.proofs.ascii.gate_at.Goals as goal

pub returns-in_err-literal-clause-stops : goal.returns-in_err-literal-clause-stops
returns-in_err-literal-clause-stops c =
    let p = err_from_is_err_and c.from_residual.result c.from_residual.ensures.1 in rw (p.1, p.2) (λ more. c.in_err-literal.ensures.stops (λ literal. number (λ left. byte 32 (number (λ right. byte 10 (more (gate_of literal left right)))))))

pub returns-in_err-left-clause-stops : goal.returns-in_err-left-clause-stops
returns-in_err-left-clause-stops c =
    let p = err_from_is_err_and c.from_residual-in_err-left.result c.from_residual-in_err-left.ensures.1 in rw (p.1, p.2) (λ more. stops_after c.args.text.now c.args.at c.in_ok-literal.end (gate_line more) (number (λ left. byte 32 (number (λ right. byte 10 (more (gate_of c.in_ok-literal.literal left right)))))) (c.in_ok-literal.ensures.read (λ literal. number (λ left. byte 32 (number (λ right. byte 10 (more (gate_of literal left right))))))) c.in_err-left.field-0.0 (c.in_err-left.ensures.stops (λ left. number (λ right. byte 10 (more (gate_of c.in_ok-literal.literal left right))))))

pub returns-in_err-right-clause-stops : goal.returns-in_err-right-clause-stops
returns-in_err-right-clause-stops c =
    let p = err_from_is_err_and c.from_residual-in_err-right.result c.from_residual-in_err-right.ensures.1 in rw (p.1, p.2) (λ more. stops_after c.args.text.now c.args.at c.in_ok-left.end (gate_line more) (number (λ right. byte 10 (more (gate_of c.in_ok-literal.literal c.in_ok-left.left right)))) (c.in_ok-literal.ensures.read (λ literal. number (λ left. byte 32 (number (λ right. byte 10 (more (gate_of literal left right)))))) ∙ c.in_ok-left.ensures.read (λ left. number (λ right. byte 10 (more (gate_of c.in_ok-literal.literal left right))))) c.in_err-right.field-0.0 (c.in_err-right.ensures.stops (λ right. more (gate_of c.in_ok-literal.literal c.in_ok-left.left right))))

pub returns-clause-read : goal.returns-clause-read
returns-clause-read c =
    λ more. c.in_ok-literal.ensures.read (λ literal. number (λ left. byte 32 (number (λ right. byte 10 (more (gate_of literal left right)))))) ∙ c.in_ok-left.ensures.read (λ left. number (λ right. byte 10 (more (gate_of c.in_ok-literal.literal left right)))) ∙ c.in_ok-right.ensures.read (λ right. more (gate_of c.in_ok-literal.literal c.in_ok-left.left right))
