-- what is written or refused is that of the formula that was read
use Rattle.std.proofs.Common.{ap, inr, ◌∙◌}
use Rattle.std.proofs.lemmas.Result.{IfErr-weaker, IfOk-weaker}
use Rattle.omega_text.specs.Cases.{or_memory}
use Rattle.omega_hoa_edges.proofs.Refusals.{passed_on}
use Rattle.omega_pg.specs.game.Canonical.{canonical_game}
use Rattle.omega_answers.proofs.Refusals.{memory_or}
use Rattle.omega_answers_synth.specs.FormulaGame.{IsFormulaGameRefusal, RefusesNamedGame}
use Rattle.omega_answers_synth.specs.Outputs.{lists_of}
use Rattle.omega_answers_synth.proofs.formula_game.write_formula_game.Goals as goal

pub returns-clause-answer : goal.returns-clause-answer
returns-clause-answer c =
    IfOk-weaker c.write_game.result _ _
    (λ output written. record {
      formula = c.in_ok-read.read;
      read = record { read = c.in_ok-read.ensures.formula; names = c.in_ok-read.ensures.names };
      holds = record { nodes = c.in_ok-game.game; game = c.in_ok-game.ensures.game; written = written ∙ ap canonical_game c.forward_game.ensures };
    })
    c.write_game.ensures.text

pub returns-in_err-game-clause-refused : goal.returns-in_err-game-clause-refused
returns-in_err-game-clause-refused c =
    passed_on c.from_residual-in_err-game.result (or_memory (IsFormulaGameRefusal c.args.formula.now (lists_of c.args.names))) _ c.from_residual-in_err-game.ensures.1
    (memory_or (RefusesNamedGame c.in_ok-read.read (lists_of c.args.names)) (IsFormulaGameRefusal c.args.formula.now (lists_of c.args.names))
    (λ refusal not. inr (record {
      formula = c.in_ok-read.read;
      read = record { read = c.in_ok-read.ensures.formula; names = c.in_ok-read.ensures.names };
      holds = not;
    }))
    _ c.in_err-game.ensures.refused)

pub returns-clause-refused : goal.returns-clause-refused
returns-clause-refused c = IfErr-weaker c.write_game.result _ _ (λ refusal e. rw e tt) c.write_game.ensures.memory
