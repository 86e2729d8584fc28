-- A run keeps a table.
use Rattle.omega_lift_laws.proofs.Lifting.{run_keeps_table}
use Rattle.omega_lift_laws.proofs.runs.runs_keep_tables.Goals as goal

pub returns : goal.returns
returns c = run_keeps_table
