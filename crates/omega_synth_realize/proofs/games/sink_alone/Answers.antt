-- the game of no rounds is not too large
use Rattle.std.proofs.Common.{subst, sym}
use Rattle.std.specs.Prelude.{IfErr, IfOk}
use Rattle.omega_synth_rounds.specs.Naming.{IsNamedGame}
use Rattle.omega_synth_rounds.specs.Rounds.{IsRounds}
use Rattle.omega_synth_rounds.specs.RoundsGame.{IsRoundsRefusal}
use Rattle.omega_synth_rounds.specs.declared.rounds.Rounds.{Rounds}
use Rattle.omega_synth_realize.proofs.Gamed.{no_rounds_are, none_ungamed}
use Rattle.omega_synth_realize.proofs.games.sink_alone.Goals as goal

pub named_rounds_game-requires : goal.named_rounds_game-requires
named_rounds_game-requires c = subst IsRounds (sym c.without_states-none.ensures) no_rounds_are

pub returns-clause-game : goal.returns-clause-game
returns-clause-game c =
    subst (λ (rounds : Rounds). IfOk c.named_rounds_game.result (IsNamedGame rounds)) c.without_states-none.ensures c.named_rounds_game.ensures.game

pub returns-clause-refused : goal.returns-clause-refused
returns-clause-refused c =
    none_ungamed c.args._automaton.now c.args._controlled.now c.named_rounds_game.result
    (subst (λ (rounds : Rounds). IfErr c.named_rounds_game.result (IsRoundsRefusal rounds)) c.without_states-none.ensures
    c.named_rounds_game.ensures.refused)
