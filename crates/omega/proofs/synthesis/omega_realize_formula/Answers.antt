-- `omega_realize_formula`: the verdict and the text of the call that it hands on, or its refusal.
use Rattle.std.proofs.Common.{Bool, inr, refl, subst}
use Rattle.omega_answers_synth.specs.FormulaRefusing.{IsFormulaRealizeRefusal}
use Rattle.omega_answers_synth.specs.FormulaWinner.{IsFormulaWinnerAnswer}
use Rattle.omega_text.specs.Cases.{or_memory}
use Rattle.omega.specs.Giving.{IsOneRefused}
use Rattle.omega.specs.Solving.{asks}
use Rattle.omega.specs.Synthesis.{lists_by}
use Rattle.omega.specs.TextOutcome.{about_input}
use Rattle.omega.proofs.Given.{one_refused, verdict_given}
use Rattle.omega.proofs.synthesis.omega_realize_formula.Goals as goal

pub returns-in-Ok : goal.returns-in-Ok
returns-in-Ok c =
    let lists = lists_by (asks c.args.inputs) c.args.names.now in
    verdict_given (IsFormulaWinnerAnswer c.args.formula.now lists) (IsOneRefused (IsFormulaRealizeRefusal c.args.formula.now lists))
    c.give_verdict.result c.args.verdict.now c.give_verdict.new.verdict c.args.out.now c.give_verdict.new.out c.in-Ok.exit c.in-Ok.output.items
    (subst (λ (b : Bool). IsFormulaWinnerAnswer c.args.formula.now (lists_by b c.args.names.now) c.in-Ok.exit c.in-Ok.output.items)
    c.asks.ensures c.in-Ok.ensures.answer)
    refl c.give_verdict.ensures

pub returns-in-Err : goal.returns-in-Err
returns-in-Err c =
    let refuses = IsFormulaRealizeRefusal c.args.formula.now (lists_by (asks c.args.inputs) c.args.names.now) in
    inr (
      refl,
      record {
        refused = about_input c.in-Err.refusal;
        refuses_so = one_refused refuses c.in-Err.refusal
            (subst (λ (b : Bool). or_memory (IsFormulaRealizeRefusal c.args.formula.now (lists_by b c.args.names.now)) c.in-Err.refusal)
            c.asks.ensures c.in-Err.ensures.refused);
        outcome_is = c.of_one.ensures;
        kept = refl;
      },
    )
