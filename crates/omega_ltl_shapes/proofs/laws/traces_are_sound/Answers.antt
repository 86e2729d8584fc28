use Rattle.omega_ltl_formula.proofs.Tables.{over_nodes}
use Rattle.omega_ltl_shapes.proofs.Sound.{traces_sound}
use Rattle.omega_ltl_shapes.proofs.laws.traces_are_sound.Goals as goal

pub returns : goal.returns
returns c = traces_sound over_nodes
