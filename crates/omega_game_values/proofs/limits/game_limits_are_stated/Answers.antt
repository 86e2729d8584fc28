-- `game_limits_are_stated`: the limits are the numbers that the definitions state.
use Rattle.std.proofs.Common.{refl}
use Rattle.omega_game_values.proofs.limits.game_limits_are_stated.Goals as goal

pub returns-clause-nodes : goal.returns-clause-nodes
returns-clause-nodes c = refl

pub returns-clause-successors : goal.returns-clause-successors
returns-clause-successors c = refl
