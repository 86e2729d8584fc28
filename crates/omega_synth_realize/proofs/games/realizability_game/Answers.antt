-- the game of rounds, or the sink
use Rattle.std.proofs.Common.{inl, inr}
use Rattle.std.proofs.lemmas.Result.{IfOk-weaker, err_from_is_err_and}
use Rattle.omega_synth_realize.proofs.Gamed.{unparted_ungamed}
use Rattle.omega_synth_realize.proofs.Refused.{on_ok_of}
use Rattle.omega_synth_realize.proofs.Sized.{on_ok_weaker}
use Rattle.omega_synth_realize.proofs.games.realizability_game.Goals as goal

pub returns-in_err-found-clause-refused : goal.returns-in_err-found-clause-refused
returns-in_err-found-clause-refused c =
    let p = err_from_is_err_and c.from_residual.result c.from_residual.ensures.1 in
    rw (p.1, p.2) (unparted_ungamed c.args.automaton.now c.args.controlled.now c.in_err-found.field-0.0 c.in_err-found.ensures.refused)

pub returns-in-None-clause-game : goal.returns-in-None-clause-game
returns-in-None-clause-game c =
    IfOk-weaker c.sink_alone.result _ _ (λ game named. inl (rw c.in-None.is at c.in_ok-found.ensures.none, named)) c.sink_alone.ensures.game

pub returns-in-Some-clause-game : goal.returns-in-Some-clause-game
returns-in-Some-clause-game c = IfOk-weaker c.game_from.result _ _ (λ game parted. inr parted) c.game_from.ensures.game

pub returns-in-None-clause-small : goal.returns-in-None-clause-small
returns-in-None-clause-small c = on_ok_of c.sink_alone.result _ (inl (rw c.in-None.is at c.in_ok-found.ensures.none))

pub returns-in-Some-clause-small : goal.returns-in-Some-clause-small
returns-in-Some-clause-small c = on_ok_weaker c.game_from.result _ _ (λ fits. inr fits) c.game_from.ensures.small
