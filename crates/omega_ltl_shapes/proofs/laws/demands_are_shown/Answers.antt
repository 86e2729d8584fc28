use Rattle.omega_ltl_formula.proofs.Tables.{over_nodes}
use Rattle.omega_ltl_shapes.proofs.Showing.{demands_shown}
use Rattle.omega_ltl_shapes.proofs.laws.demands_are_shown.Goals as goal

pub returns : goal.returns
returns c = demands_shown over_nodes
