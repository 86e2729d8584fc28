-- `omega_realize`: the verdict and the text of the call that it hands on, or its refusal.
use Rattle.std.proofs.Common.{inr, refl}
use Rattle.omega_answers_synth.specs.Refusing.{IsRealizeRefusal}
use Rattle.omega_answers_synth.specs.Winner.{IsWinnerAnswer}
use Rattle.omega_solve.specs.Limits.{most_lifts}
use Rattle.omega.specs.Giving.{IsOneRefused}
use Rattle.omega.specs.TextOutcome.{about_input}
use Rattle.omega.proofs.Given.{one_refused, verdict_given}
use Rattle.omega.proofs.realizing.omega_realize.Goals as goal

pub returns-in-Ok : goal.returns-in-Ok
returns-in-Ok c =
    verdict_given (IsWinnerAnswer c.args.text.now) (IsOneRefused (IsRealizeRefusal c.args.text.now most_lifts)) c.give_verdict.result c.args.verdict.now c.give_verdict.new.verdict
    c.args.out.now c.give_verdict.new.out c.in-Ok.exit c.in-Ok.output.items c.in-Ok.ensures.answer refl c.give_verdict.ensures

pub returns-in-Err : goal.returns-in-Err
returns-in-Err c =
    inr (
      refl,
      record {
        refused = about_input c.in-Err.refusal;
        refuses_so = one_refused (IsRealizeRefusal c.args.text.now most_lifts) c.in-Err.refusal c.in-Err.ensures.refused;
        outcome_is = c.of_one.ensures;
        kept = refl;
      },
    )
