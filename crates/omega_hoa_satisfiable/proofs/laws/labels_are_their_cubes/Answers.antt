use Rattle.std.proofs.Common.{true}
use Rattle.omega_hoa_satisfiable.proofs.Cubes.{cubes_truth}
use Rattle.omega_hoa_satisfiable.proofs.laws.labels_are_their_cubes.Goals as goal

pub returns : goal.returns
returns c = λ held tree. cubes_truth held true tree
