-- `check_solution_by_order`: each player's choices are a strategy.
use Rattle.omega_game.proofs.walks.Keeping.{strategies_of}
use Rattle.omega_game.proofs.checking.check_solution_by_order.Goals as goal

pub shows_given-requires-clause-strategies : goal.shows_given-requires-clause-strategies
shows_given-requires-clause-strategies c = strategies_of c.args.game.now c.args.solution.now c.requires.zero c.requires.one
