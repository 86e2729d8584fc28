-- `omega_ltl`: the text of the call that it hands on, or its refusal.
use Rattle.std.proofs.Common.{Bool, inr, refl, subst}
use Rattle.omega_text.specs.Cases.{or_memory}
use Rattle.omega_answers_formula.specs.Ltl.{IsLtlAnswer, IsLtlRefusal}
use Rattle.omega.specs.Giving.{IsOneRefused}
use Rattle.omega.specs.Solving.{asks}
use Rattle.omega.specs.TextOutcome.{about_input}
use Rattle.omega.proofs.Given.{one_refused, text_given}
use Rattle.omega.proofs.formulas.omega_ltl.Goals as goal

pub returns-in-Ok : goal.returns-in-Ok
returns-in-Ok c =
    text_given (IsLtlAnswer c.args.formula.now (asks c.args.negated)) (IsOneRefused (IsLtlRefusal c.args.formula.now (asks c.args.negated))) c.give.result c.args.out.now c.give.new.out
    c.in-Ok.output.items (subst (λ (b : Bool). IsLtlAnswer c.args.formula.now b c.in-Ok.output.items) c.asks.ensures c.in-Ok.ensures.answer) refl c.give.ensures

pub returns-in-Err : goal.returns-in-Err
returns-in-Err c =
    inr (record {
      refused = about_input c.in-Err.refusal;
      refuses_so = one_refused (IsLtlRefusal c.args.formula.now (asks c.args.negated)) c.in-Err.refusal
          (subst (λ (b : Bool). or_memory (IsLtlRefusal c.args.formula.now b) c.in-Err.refusal) c.asks.ensures c.in-Err.ensures.refused);
      outcome_is = c.of_one.ensures;
      kept = refl;
    })
