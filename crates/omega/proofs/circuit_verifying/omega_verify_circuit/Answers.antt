-- `omega_verify_circuit`: the verdict and the text of the call that it hands on, or its refusal.
use Rattle.std.proofs.Common.{Bool, inl, inr, refl, subst}
use Rattle.omega_answers_circuit.specs.Verify.{IsCircuitAnswer, IsCircuitRefused}
use Rattle.omega.specs.Solving.{asks}
use Rattle.omega.proofs.Given.{verdict_given}
use Rattle.omega.proofs.circuit_verifying.omega_verify_circuit.Goals as goal

pub returns-in-Ok : goal.returns-in-Ok
returns-in-Ok c =
    verdict_given (IsCircuitAnswer c.args.specification.now c.args.circuit.now (asks c.args.explain)) (IsCircuitRefused c.args.specification.now c.args.circuit.now)
    c.give_verdict.result c.args.verdict.now c.give_verdict.new.verdict c.args.out.now c.give_verdict.new.out c.in-Ok.exit c.in-Ok.output.items
    (subst (λ (b : Bool). IsCircuitAnswer c.args.specification.now c.args.circuit.now b c.in-Ok.exit c.in-Ok.output.items) c.asks.ensures c.in-Ok.ensures.answer)
    (inl refl) c.give_verdict.ensures

pub returns-in-Err : goal.returns-in-Err
returns-in-Err c =
    inr (refl, record { refused = c.in-Err.refused; refuses_so = c.in-Err.ensures.refused; outcome_is = c.of.ensures; kept = refl })
