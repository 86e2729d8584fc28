-- what is written or refused is that of the formula that was read
use Rattle.std.proofs.Common.{inr}
use Rattle.std.proofs.lemmas.Result.{IfErr-weaker, IfOk-weaker}
use Rattle.omega_answers.proofs.Refusals.{memory_or}
use Rattle.omega_answers_formula.specs.DeterministicNegation.{IsDeterministicNegationRefusal, IsNegationNotDetermined}
use Rattle.omega_answers_formula.proofs.deterministic_negation.deterministic_negation_text.Goals as goal

pub returns-clause-answer : goal.returns-clause-answer
returns-clause-answer c =
    IfOk-weaker c.negation_text.result _ _
    (λ output text. record {
      formula = c.in_ok-formula.formula;
      read = record { read = c.in_ok-formula.ensures.formula; names = c.in_ok-formula.ensures.names };
      holds = text;
    })
    c.negation_text.ensures.text

pub returns-clause-refused : goal.returns-clause-refused
returns-clause-refused c =
    IfErr-weaker c.negation_text.result _ _
    (memory_or (IsNegationNotDetermined c.in_ok-formula.formula) (IsDeterministicNegationRefusal c.args.text.now)
    (λ refusal not. inr (record {
      formula = c.in_ok-formula.formula;
      read = record { read = c.in_ok-formula.ensures.formula; names = c.in_ok-formula.ensures.names };
      holds = not;
    })))
    c.negation_text.ensures.refused
