-- `omega_circuit_automaton`: the text of the call that it hands on, or its refusal.
use Rattle.std.proofs.Common.{inr, refl}
use Rattle.omega_answers_circuit.specs.WriteAutomaton.{IsCircuitAutomatonAnswer, IsCircuitAutomatonRefusal}
use Rattle.omega.specs.Giving.{IsOneRefused}
use Rattle.omega.specs.TextOutcome.{about_input}
use Rattle.omega.proofs.Given.{one_refused, text_given}
use Rattle.omega.proofs.circuits.omega_circuit_automaton.Goals as goal

pub returns-in-Ok : goal.returns-in-Ok
returns-in-Ok c =
    text_given (IsCircuitAutomatonAnswer c.args.text.now) (IsOneRefused (IsCircuitAutomatonRefusal c.args.text.now)) c.give.result c.args.out.now c.give.new.out
    c.in-Ok.output.items c.in-Ok.ensures.answer refl c.give.ensures

pub returns-in-Err : goal.returns-in-Err
returns-in-Err c =
    inr (record {
      refused = about_input c.in-Err.refusal;
      refuses_so = one_refused (IsCircuitAutomatonRefusal c.args.text.now) c.in-Err.refusal c.in-Err.ensures.refused;
      outcome_is = c.of_one.ensures;
      kept = refl;
    })
