-- `loses_at`: whether a place is marked, of a losing priority, and recurs.
use Rattle.std.proofs.Common.{rules}
use Rattle.omega_game.proofs.checking.deciding.loses_at.Goals as goal

pub returns : goal.returns
returns c = search rules
