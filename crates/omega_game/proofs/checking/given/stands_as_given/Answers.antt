-- `stands_as_given`: the choices of the winner at a place lead to nodes.
use Rattle.std.proofs.Common.{slice_index_or}
use Rattle.omega_game_values.specs.declared.player.Player.TheVariants.{Zero}
use Rattle.omega_game.proofs.walks.Recurrence.{choices_of_strategy}
use Rattle.omega_game.proofs.checking.given.stands_as_given.Goals as goal

pub edges_left-next-items-requires-clause-choices : goal.edges_left-next-items-requires-clause-choices
edges_left-next-items-requires-clause-choices c =
    let winner = slice_index_or c.as_slice-winners.result.now c.args.place Zero in
    rw (c.as_slice-choices.ensures, c.strategy.ensures)
    (choices_of_strategy c.args.game.now winner _ c.keeps_limits.ensures.game (c.requires.strategies winner))
