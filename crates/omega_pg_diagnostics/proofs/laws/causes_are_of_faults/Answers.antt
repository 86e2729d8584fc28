-- `causes_are_of_faults`: by the cases of the line.
use Rattle.omega_pg_diagnostics.proofs.games.Refused.{causes_of_faults}
use Rattle.omega_pg_diagnostics.proofs.laws.causes_are_of_faults.Goals as goal

pub returns : goal.returns
returns c = causes_of_faults c.games_are_not_refused.ensures
