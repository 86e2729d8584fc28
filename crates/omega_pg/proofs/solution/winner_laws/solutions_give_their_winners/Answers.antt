-- A text that describes a solution gives its winners.
use Rattle.omega_pg.proofs.solutions.WinnersApart.{solutions_winners}
use Rattle.omega_pg.proofs.solution.winner_laws.solutions_give_their_winners.Goals as goal

pub returns : goal.returns
returns c = solutions_winners
