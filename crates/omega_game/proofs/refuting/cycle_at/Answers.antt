-- `cycle_at`: a place that recurs, and the places before it on a shortest way from it to itself.
use Rattle.std.proofs.Common.{rules}
use Rattle.omega_game.proofs.refuting.cycle_at.Goals as goal

pub returns : goal.returns
returns c = search rules
