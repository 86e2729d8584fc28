-- runs in the game of the rounds, and none if there is no game
use Rattle.std.proofs.Common.{List, subst, sym}
use Rattle.std.proofs.lemmas.Result.{IfOk-weaker}
use Rattle.omega_game_values.specs.Game.{Node}
use Rattle.omega_solve.proofs.within_budget.Observed.{none_observed, observed_alike, observed_as, spares}
use Rattle.omega_synth_rounds.specs.RoundsGame.{IsRoundsGame, IsRoundsRefusal}
use Rattle.omega_synth_realize.proofs.lifting.lift_rounds.Goals as goal

pub returns-in_err-game-clause-reported : goal.returns-in_err-game-clause-reported
returns-in_err-game-clause-reported g c =
    observed_alike _ _ _ _ c.from_residual.result _ c.in_err-game.field-0.0 _ _ c.from_residual.ensures.1 (λ e same. same)
    (none_observed _ _ _ _ _ _ (spares (IsRoundsRefusal c.args.rounds.now) _ c.in_err-game.ensures.refused (λ no. no)))

pub returns-clause-reported : goal.returns-clause-reported
returns-clause-reported g c =
    observed_as _ _ _ _ _ _ _ _
    (λ nodes players lifted.
    (subst (λ (game : List Node). IsRoundsGame c.args.rounds.now game) (sym lifted.0) c.in_ok-game.ensures.game, lifted.1))
    c.lift_in.ensures.reported

pub returns-clause-lifted : goal.returns-clause-lifted
returns-clause-lifted g c =
    IfOk-weaker c.lift_in.result _ _
    (λ outcome lifted. record { game = c.in_ok-game.game; game_is = c.in_ok-game.ensures.game; lifted = lifted })
    c.lift_in.ensures.lifted
