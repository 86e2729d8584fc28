-- `omega_ltl_deterministic`: the text of the call that it hands on, or its refusal.
use Rattle.std.proofs.Common.{inr, refl}
use Rattle.omega_answers_formula.specs.Deterministic.{IsDeterministicAnswer, IsDeterministicRefusal}
use Rattle.omega.specs.Giving.{IsOneRefused}
use Rattle.omega.specs.TextOutcome.{about_input}
use Rattle.omega.proofs.Given.{one_refused, text_given}
use Rattle.omega.proofs.formulas.omega_ltl_deterministic.Goals as goal

pub returns-in-Ok : goal.returns-in-Ok
returns-in-Ok c =
    text_given (IsDeterministicAnswer c.args.formula.now) (IsOneRefused (IsDeterministicRefusal c.args.formula.now)) c.give.result c.args.out.now c.give.new.out
    c.in-Ok.output.items c.in-Ok.ensures.answer refl c.give.ensures

pub returns-in-Err : goal.returns-in-Err
returns-in-Err c =
    inr (record {
      refused = about_input c.in-Err.refusal;
      refuses_so = one_refused (IsDeterministicRefusal c.args.formula.now) c.in-Err.refusal c.in-Err.ensures.refused;
      outcome_is = c.of_one.ensures;
      kept = refl;
    })
