-- `omega_realize_circuit`: the verdict and the text of the call that it hands on, or its refusal.
use Rattle.std.proofs.Common.{inr, refl, subst}
use Rattle.omega_answers_circuit.specs.WinningCircuit.{IsWinningCircuitAnswer, IsWinningCircuitRefusal}
use Rattle.omega_answers_circuit.specs.declared.circuit_form.CircuitForm.{CircuitForm}
use Rattle.omega_text.specs.Cases.{or_memory}
use Rattle.omega.specs.Circuits.{form_asked}
use Rattle.omega.specs.Giving.{IsOneRefused}
use Rattle.omega.specs.TextOutcome.{about_input}
use Rattle.omega.proofs.Given.{one_refused, verdict_given}
use Rattle.omega.proofs.circuit_realizing.omega_realize_circuit.Goals as goal

pub returns-in-Ok : goal.returns-in-Ok
returns-in-Ok c =
    let form = form_asked c.args.binary in
    verdict_given (IsWinningCircuitAnswer form c.args.text.now) (IsOneRefused (IsWinningCircuitRefusal form c.args.text.now))
    c.give_verdict.result c.args.verdict.now c.give_verdict.new.verdict c.args.out.now c.give_verdict.new.out c.in-Ok.exit c.in-Ok.output.items
    (subst (λ (f : CircuitForm). IsWinningCircuitAnswer f c.args.text.now c.in-Ok.exit c.in-Ok.output.items) c.form_asked.ensures c.in-Ok.ensures.answer)
    refl c.give_verdict.ensures

pub returns-in-Err : goal.returns-in-Err
returns-in-Err c =
    inr (
      refl,
      record {
        refused = about_input c.in-Err.refusal;
        refuses_so = one_refused (IsWinningCircuitRefusal (form_asked c.args.binary) c.args.text.now) c.in-Err.refusal
            (subst (λ (f : CircuitForm). or_memory (IsWinningCircuitRefusal f c.args.text.now) c.in-Err.refusal) c.form_asked.ensures c.in-Err.ensures.refused);
        outcome_is = c.of_one.ensures;
        kept = refl;
      },
    )
