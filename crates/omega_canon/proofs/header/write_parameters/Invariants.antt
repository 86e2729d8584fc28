-- `write_parameters`: the items before this one are written.
use Rattle.std.proofs.Common.{◌≡◌, ◌++◌, take}
use Rattle.std.specs.List.{flat_map}
use Rattle.omega_canon.specs.HeaderText.{parameter_part}
use Rattle.omega_canon.proofs.header.write_parameters.Given as goal

abbrev pub invariant-loop-parameter : goal.invariant-loop-parameter
invariant-loop-parameter l = l.out.items ≡ l.fn.out.items ++ flat_map parameter_part (take l.parameter-index l.parameters)
