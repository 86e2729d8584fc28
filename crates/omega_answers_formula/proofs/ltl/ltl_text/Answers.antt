-- what is written or refused is that of the formula that was read
use Rattle.std.proofs.Common.{inr}
use Rattle.std.proofs.lemmas.Result.{IfErr-weaker, IfOk-weaker}
use Rattle.omega_answers.proofs.Refusals.{or_memory_of}
use Rattle.omega_answers_formula.specs.Ltl.{IsLtlRefusal}
use Rattle.omega_answers_formula.proofs.ltl.ltl_text.Goals as goal

pub returns-clause-answer : goal.returns-clause-answer
returns-clause-answer c =
    IfOk-weaker c.automaton_text.result _ _
    (λ output text. record {
      formula = c.in_ok-formula.formula;
      read = record { read = c.in_ok-formula.ensures.formula; names = c.in_ok-formula.ensures.names };
      holds = text;
    })
    c.automaton_text.ensures.text

pub returns-clause-refused : goal.returns-clause-refused
returns-clause-refused c =
    IfErr-weaker c.automaton_text.result _ _
    (λ refusal large. or_memory_of (IsLtlRefusal c.args.text.now c.args.negated) refusal (inr (record {
      formula = c.in_ok-formula.formula;
      read = record { read = c.in_ok-formula.ensures.formula; names = c.in_ok-formula.ensures.names };
      holds = record { few = c.in_ok-formula.ensures.nodes; large = large };
    })))
    c.automaton_text.ensures.refused
