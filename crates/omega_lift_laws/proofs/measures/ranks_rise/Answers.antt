-- Ranks rise with measures.
use Rattle.omega_lift_laws.proofs.Ranks.{rank_rises}
use Rattle.omega_lift_laws.proofs.measures.ranks_rise.Goals as goal

pub returns : goal.returns
returns c = rank_rises
