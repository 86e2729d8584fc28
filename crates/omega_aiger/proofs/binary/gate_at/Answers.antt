-- The two deltas.
use Rattle.std.proofs.Common.{ℕ, drop, sym, ap, ◌∙◌}
use Rattle.std.proofs.lemmas.Result.{err_from_is_err_and}
use Rattle.omega_aiger.specs.Layout.{delta}
use Rattle.omega_aiger.specs.Lines.{gate_by, gate_of, two_deltas}
use Rattle.omega_aiger.specs.private.Outcome.{outcome}
use Rattle.omega_circuit.specs.declared.gate.Gate.{Gate}
use Rattle.omega_aiger.proofs.Steps.{stops_after}
use Rattle.std.proofs.Common.{ap₂}
use Rattle.omega_aiger.specs.Deltas.{right_operand}
use Rattle.omega_aiger.proofs.binary.gate_at.Goals as goal

pub returns-in_err-first-clause-stops : goal.returns-in_err-first-clause-stops
returns-in_err-first-clause-stops c =
    let p = err_from_is_err_and c.from_residual.result c.from_residual.ensures.1 in rw (p.1, p.2) (λ more. c.in_err-first.ensures.stops (λ first. delta (λ second. more (gate_by c.args.literal first second))))

pub returns-in_err-second-clause-stops : goal.returns-in_err-second-clause-stops
returns-in_err-second-clause-stops c =
    let p = err_from_is_err_and c.from_residual-in_err-second.result c.from_residual-in_err-second.ensures.1 in rw (p.1, p.2) (λ more. stops_after c.args.text.now c.args.at c.in_ok-first.middle (two_deltas c.args.literal more) (delta (λ second. more (gate_by c.args.literal c.in_ok-first.first second))) (c.in_ok-first.ensures.read (λ first. delta (λ second. more (gate_by c.args.literal first second)))) c.in_err-second.field-0.0 (c.in_err-second.ensures.stops (λ second. more (gate_by c.args.literal c.in_ok-first.first second))))

pub returns-clause-read : goal.returns-clause-read
returns-clause-read c =
    λ more. c.in_ok-first.ensures.read (λ first. delta (λ second. more (gate_by c.args.literal first second))) ∙ c.in_ok-second.ensures.read (λ second. more (gate_by c.args.literal c.in_ok-first.first second)) ∙ ap (λ (g : Gate). outcome (more g) c.in_ok-second.end (drop c.in_ok-second.end c.args.text.now))
    (ap₂ (λ (left right : ℕ). gate_of c.args.literal left right) (sym c.left_operand-left.ensures) (sym (c.right_operand-right.ensures ∙ ap (λ left. right_operand left c.in_ok-second.second) c.left_operand-left.ensures)))
