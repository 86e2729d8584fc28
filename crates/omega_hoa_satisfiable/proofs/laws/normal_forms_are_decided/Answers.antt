use Rattle.omega_hoa_satisfiable.proofs.Cubes.{normal_decided}
use Rattle.omega_hoa_satisfiable.proofs.laws.normal_forms_are_decided.Goals as goal

pub returns : goal.returns
returns c = normal_decided
