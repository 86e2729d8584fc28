-- The law by its lemma.
use Rattle.omega_ltl_formula.proofs.Tables.{over_nodes}
use Rattle.omega_ltl_formula.proofs.laws.nodes_are_over_nodes.Goals as goal

pub returns : goal.returns
returns c = over_nodes
