-- what is written or refused is that of the formula that was read
use Rattle.std.proofs.Common.{inr}
use Rattle.std.proofs.lemmas.Result.{IfErr-weaker, IfOk-weaker}
use Rattle.omega_answers.proofs.Refusals.{memory_or}
use Rattle.omega_answers_formula.specs.Deterministic.{IsDeterministicRefusal, IsNotDetermined}
use Rattle.omega_answers_formula.proofs.deterministic.deterministic_text.Goals as goal

pub returns-clause-answer : goal.returns-clause-answer
returns-clause-answer c =
    IfOk-weaker c.deterministic_automaton_text.result _ _
    (λ output text. record {
      formula = c.in_ok-formula.formula;
      read = record { read = c.in_ok-formula.ensures.formula; names = c.in_ok-formula.ensures.names };
      holds = text;
    })
    c.deterministic_automaton_text.ensures.text

pub returns-clause-refused : goal.returns-clause-refused
returns-clause-refused c =
    IfErr-weaker c.deterministic_automaton_text.result _ _
    (memory_or (IsNotDetermined c.in_ok-formula.formula) (IsDeterministicRefusal c.args.text.now)
    (λ refusal not. inr (record {
      formula = c.in_ok-formula.formula;
      read = record { read = c.in_ok-formula.ensures.formula; names = c.in_ok-formula.ensures.names };
      holds = not;
    })))
    c.deterministic_automaton_text.ensures.refused
