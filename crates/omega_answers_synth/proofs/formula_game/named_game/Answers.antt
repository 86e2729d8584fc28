-- the lists do not part the names, or there is a game with the outputs
use Rattle.std.proofs.Common.{ℕ, List, subst, ◌∙◌}
use Rattle.std.proofs.lemmas.Result.{IfErr-weaker, IfOk-weaker}
use Rattle.omega_text.specs.Cases.{or_memory}
use Rattle.omega_hoa_edges.proofs.Refusals.{passed_on}
use Rattle.omega_answers_synth.specs.FormulaGame.{IsFormulaGame, IsNotGamed, RefusesNamedGame}
use Rattle.omega_answers_synth.specs.Outputs.{lists_of}
use Rattle.omega_answers_synth.proofs.GivenOutputs.{lists_refuse, outputs_refuse}
use Rattle.omega_answers_synth.proofs.formula_game.named_game.Goals as goal

pub returns-in_err-outs-clause-refused : goal.returns-in_err-outs-clause-refused
returns-in_err-outs-clause-refused c =
    passed_on c.from_residual.result (or_memory (RefusesNamedGame c.args.formula.now (lists_of c.args.names))) _ c.from_residual.ensures.1
    (lists_refuse c.args.formula.now (lists_of c.args.names) (IsNotGamed c.args.formula.now) _ c.in_err-outs.ensures.refused)

pub returns-clause-game : goal.returns-clause-game
returns-clause-game c =
    let listed = c.in_ok-outs.ensures.outputs in
    IfOk-weaker c.formula_game.result _ _
    (λ nodes game. record {
      parted = listed.parted;
      holds = subst (λ (outs : List (List ℕ)). IsFormulaGame c.args.formula.now outs nodes) (c.as_slice.ensures.value ∙ listed.are) game;
    })
    c.formula_game.ensures.game

pub returns-clause-refused : goal.returns-clause-refused
returns-clause-refused c =
    IfErr-weaker c.formula_game.result _ _
    (λ refusal not.
    outputs_refuse c.args.formula.now (lists_of c.args.names) c.in_ok-outs.outs.items c.in_ok-outs.ensures.outputs (IsNotGamed c.args.formula.now) c.as_slice.result.now
    c.as_slice.ensures.value refusal not)
    c.formula_game.ensures.refused
