-- A lifting run ends in the least table in which no lift is due.
use Rattle.omega_solve.proofs.turning.Ending.{led_to_least}
use Rattle.omega_solve.proofs.laws.runs_lead_to_least_tables.Goals as goal

pub returns : goal.returns
returns c = led_to_least
