-- `omega_circuit`: the text of the call that it hands on, or its refusal.
use Rattle.std.proofs.Common.{inr, refl, subst}
use Rattle.omega_answers_circuit.specs.Canon.{IsCircuitCanonAnswer, IsCircuitCanonRefusal}
use Rattle.omega_answers_circuit.specs.declared.circuit_form.CircuitForm.{CircuitForm}
use Rattle.omega_text.specs.Cases.{or_memory}
use Rattle.omega.specs.Circuits.{form_asked}
use Rattle.omega.specs.Giving.{IsOneRefused}
use Rattle.omega.specs.TextOutcome.{about_input}
use Rattle.omega.proofs.Given.{one_refused, text_given}
use Rattle.omega.proofs.circuits.omega_circuit.Goals as goal

pub returns-in-Ok : goal.returns-in-Ok
returns-in-Ok c =
    let form = form_asked c.args.binary in
    text_given (IsCircuitCanonAnswer form c.args.text.now) (IsOneRefused (IsCircuitCanonRefusal form c.args.text.now)) c.give.result c.args.out.now c.give.new.out
    c.in-Ok.output.items
    (subst (λ (f : CircuitForm). IsCircuitCanonAnswer f c.args.text.now c.in-Ok.output.items) c.form_asked.ensures c.in-Ok.ensures.answer)
    refl c.give.ensures

pub returns-in-Err : goal.returns-in-Err
returns-in-Err c =
    inr (record {
      refused = about_input c.in-Err.refusal;
      refuses_so = one_refused (IsCircuitCanonRefusal (form_asked c.args.binary) c.args.text.now) c.in-Err.refusal
          (subst (λ (f : CircuitForm). or_memory (IsCircuitCanonRefusal f c.args.text.now) c.in-Err.refusal) c.form_asked.ensures c.in-Err.ensures.refused);
      outcome_is = c.of_one.ensures;
      kept = refl;
    })
