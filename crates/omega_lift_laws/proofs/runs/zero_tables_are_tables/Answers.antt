-- The all-zero table is a table.
use Rattle.omega_lift_laws.proofs.Lifting.{zero_is_table}
use Rattle.omega_lift_laws.proofs.runs.zero_tables_are_tables.Goals as goal

pub returns : goal.returns
returns c = zero_is_table
