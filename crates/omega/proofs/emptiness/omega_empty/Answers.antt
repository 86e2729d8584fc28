-- `omega_empty`: the text of the call that it hands on, or its refusal.
use Rattle.std.proofs.Common.{Bool, false, inr, refl, subst}
use Rattle.omega_answers_empty.specs.empty.Answer.{IsEmptySearchAnswer, IsEmptySearchRefusal}
use Rattle.omega.specs.Giving.{IsOneRefused}
use Rattle.omega.specs.Solving.{asks}
use Rattle.omega.specs.TextOutcome.{about_input}
use Rattle.omega.proofs.Given.{one_refused, text_given}
use Rattle.omega.proofs.emptiness.omega_empty.Goals as goal

pub returns-in-Ok : goal.returns-in-Ok
returns-in-Ok c =
    let ends = c.in-Ok.ensures.answer in
    text_given (IsEmptySearchAnswer c.args.text.now (record { word = asks c.args.word; run = false })) (IsOneRefused (IsEmptySearchRefusal c.args.text.now)) c.give.result c.args.out.now c.give.new.out
    c.in-Ok.output.items
    (subst (λ (b : Bool). IsEmptySearchAnswer c.args.text.now (record { word = b; run = false }) c.in-Ok.output.items) c.asks.ensures
    (record { automaton = ends.automaton; read = ends.read; holds = ends.holds.0 }))
    refl c.give.ensures

pub returns-in-Err : goal.returns-in-Err
returns-in-Err c =
    inr (record {
      refused = about_input c.in-Err.refusal;
      refuses_so = one_refused (IsEmptySearchRefusal c.args.text.now) c.in-Err.refusal c.in-Err.ensures.refused;
      outcome_is = c.of_one.ensures;
      kept = refl;
    })
