-- `winners_in`: there are as many winners as nodes.
use Rattle.omega_answers_game.proofs.GivenWinners.{winners-counted}
use Rattle.omega_answers_game.proofs.verify.winners.winners_in.Goals as goal

pub returns-clause-count : goal.returns-clause-count
returns-clause-count c = winners-counted c.args.game.now _ c.in_ok-winners.winners.items c.in_ok-winners.ensures.winners
