use Rattle.omega_ltl_formula.proofs.Deciding.{truth}
use Rattle.omega_ltl_formula.proofs.Duals.{duals}
use Rattle.omega_ltl_formula.proofs.Tables.{over_nodes}
use Rattle.omega_ltl_formula.proofs.Unfolding.{unfolding_laws}
use Rattle.omega_ltl_shapes.proofs.Truths.{truths_follow}
use Rattle.omega_ltl_shapes.proofs.laws.truths_follow_shapes.Goals as goal

pub returns : goal.returns
returns c = truths_follow over_nodes truth unfolding_laws duals
