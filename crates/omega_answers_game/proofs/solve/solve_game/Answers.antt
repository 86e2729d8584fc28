-- `solve_game`: the refusal for the whole game is that of the text, and the reports are of runs in the game of the
-- text, or in its part.
use Rattle.std.proofs.Common.{rules}
use Rattle.std.proofs.lemmas.Result.{IfOk-weaker}
use Rattle.omega_pg.specs.game.Refusing.{IsReadRefusal}
use Rattle.omega_answers_game.proofs.Observing.{read_spares}
use Rattle.omega_solve.proofs.within_budget.Observed.{none_observed, spares, observed_alike, observed_as}
use Rattle.omega_answers_game.proofs.solve.solve_game.Goals as goal

pub returns-in-None-clause-refused : goal.returns-in-None-clause-refused
returns-in-None-clause-refused g c = search rules

pub returns-in_err-game-clause-reported : goal.returns-in_err-game-clause-reported
returns-in_err-game-clause-reported g c =
    observed_alike _ _ _ _ c.from_residual.result _ c.in_err-game.field-0.0 _ _ c.from_residual.ensures.1 (λ e same. same)
    (none_observed _ _ _ _ _ _ (spares (IsReadRefusal c.args.text.now) _ c.in_err-game.ensures.refused (read_spares c.args.text.now)))

pub returns-in-None-clause-reported : goal.returns-in-None-clause-reported
returns-in-None-clause-reported g c =
    let read = c.in_ok-game.ensures.game in
    rw c.in-None.is (observed_as _ _ _ _ _ _ _ _ (λ nodes players lifted. (rw lifted.0 read, lifted.1)) c.solve_whole.ensures.reported)

pub returns-in-Some-clause-reported : goal.returns-in-Some-clause-reported
returns-in-Some-clause-reported g c =
    rw c.in-Some.is (observed_as _ _ _ _ _ _ _ _
    (λ nodes players lifted. (record { game = c.in_ok-game.game; read = c.in_ok-game.ensures.game; part_of = lifted.0 }, lifted.1))
    c.solve_part.ensures.reported)

pub returns-in-None-clause-counted : goal.returns-in-None-clause-counted
returns-in-None-clause-counted g c =
    rw c.in-None.is (IfOk-weaker c.solve_whole.result _ _ (λ output counted. (c.in_ok-game.game, c.in_ok-game.ensures.game, counted)) c.solve_whole.ensures.counted)

pub returns-in-Some-clause-counted : goal.returns-in-Some-clause-counted
returns-in-Some-clause-counted g c =
    rw c.in-Some.is (IfOk-weaker c.solve_part.result _ _
    (λ output counted. (
      counted.0,
      record { game = c.in_ok-game.game; read = c.in_ok-game.ensures.game; part_of = counted.1 },
      counted.2,
    ))
    c.solve_part.ensures.counted)
