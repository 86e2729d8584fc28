-- were the node in the opponent's region, the play that follows both strategies would have a
-- limit that loses for neither
use Rattle.omega_game_region_laws.proofs.Histories.{memory_no_more}
use Rattle.omega_game_region_laws.proofs.plays.memory_wins_no_more.Goals as goal

pub returns : goal.returns
returns c = memory_no_more
