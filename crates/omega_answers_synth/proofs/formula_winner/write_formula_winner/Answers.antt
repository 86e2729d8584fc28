-- what is written or refused is that of the formula that was read
use Rattle.std.proofs.Common.{inr}
use Rattle.std.proofs.lemmas.Result.{IfErr-weaker, IfOk-weaker}
use Rattle.omega_answers.proofs.Refusals.{memory_or}
use Rattle.omega_answers_synth.specs.FormulaRefusing.{IsFormulaRealizeRefusal, RefusesWinner}
use Rattle.omega_answers_synth.specs.Outputs.{lists_of}
use Rattle.omega_answers_synth.proofs.formula_winner.write_formula_winner.Goals as goal

pub returns-clause-answer : goal.returns-clause-answer
returns-clause-answer c =
    IfOk-weaker c.named_winner.result _ _
    (λ made winner. record {
      formula = c.in_ok-read.read;
      read = record { read = c.in_ok-read.ensures.formula; names = c.in_ok-read.ensures.names };
      holds = winner;
    })
    c.named_winner.ensures.winner

pub returns-clause-refused : goal.returns-clause-refused
returns-clause-refused c =
    IfErr-weaker c.named_winner.result _ _
    (memory_or (RefusesWinner c.in_ok-read.read (lists_of c.args.names)) (IsFormulaRealizeRefusal c.args.formula.now (lists_of c.args.names))
    (λ refusal not. inr (record {
      formula = c.in_ok-read.read;
      read = record { read = c.in_ok-read.ensures.formula; names = c.in_ok-read.ensures.names };
      holds = not;
    })))
    c.named_winner.ensures.refused
