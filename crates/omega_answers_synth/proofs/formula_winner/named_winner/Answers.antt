-- the lists do not part the names, or there is a winner with the outputs
use Rattle.std.proofs.Common.{ℕ, List, subst, ◌∙◌}
use Rattle.std.proofs.lemmas.Result.{IfErr-weaker, IfOk-weaker}
use Rattle.omega_text.specs.Cases.{or_memory}
use Rattle.omega_hoa_edges.proofs.Refusals.{passed_on}
use Rattle.omega_answers_synth.specs.FormulaRefusing.{IsNotWon, RefusesWinner}
use Rattle.omega_answers_synth.specs.FormulaWinner.{IsFormulaWinner}
use Rattle.omega_answers_synth.specs.Outputs.{lists_of}
use Rattle.omega_answers_synth.proofs.GivenOutputs.{lists_refuse, outputs_refuse}
use Rattle.omega_answers_synth.proofs.formula_winner.named_winner.Goals as goal

pub returns-in_err-outs-clause-refused : goal.returns-in_err-outs-clause-refused
returns-in_err-outs-clause-refused c =
    passed_on c.from_residual.result (or_memory (RefusesWinner c.args.formula.now (lists_of c.args.names))) _ c.from_residual.ensures.1
    (lists_refuse c.args.formula.now (lists_of c.args.names) (IsNotWon c.args.formula.now) _ c.in_err-outs.ensures.refused)

pub returns-clause-winner : goal.returns-clause-winner
returns-clause-winner c =
    let listed = c.in_ok-outs.ensures.outputs in
    IfOk-weaker c.formula_winner.result _ _
    (λ made winner. record {
      parted = listed.parted;
      holds = subst (λ (outs : List (List ℕ)). IsFormulaWinner c.args.formula.now outs made.0 made.1.items) (c.as_slice.ensures.value ∙ listed.are) winner;
    })
    c.formula_winner.ensures.winner

pub returns-clause-refused : goal.returns-clause-refused
returns-clause-refused c =
    IfErr-weaker c.formula_winner.result _ _
    (λ refusal not.
    outputs_refuse c.args.formula.now (lists_of c.args.names) c.in_ok-outs.outs.items c.in_ok-outs.ensures.outputs (IsNotWon c.args.formula.now) c.as_slice.result.now
    c.as_slice.ensures.value refusal not)
    c.formula_winner.ensures.refused
