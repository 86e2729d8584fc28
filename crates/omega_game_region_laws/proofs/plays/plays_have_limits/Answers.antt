-- from a bound down: each priority recurs or comes no more
use Rattle.omega_game_region_laws.proofs.Settling.{limits}
use Rattle.omega_game_region_laws.proofs.plays.plays_have_limits.Goals as goal

pub returns : goal.returns
returns c = limits
