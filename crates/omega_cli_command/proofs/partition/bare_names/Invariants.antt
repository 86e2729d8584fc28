-- `bare_names`: the parts before this one are copied without their white space.
use Rattle.std.proofs.Common.{◌≡◌, map, take}
use Rattle.omega_cli_command.specs.Partition.{bare_name}
use Rattle.omega_cli_command.proofs.partition.bare_names.Given as goal

abbrev pub invariant-loop-part : goal.invariant-loop-part
invariant-loop-part l = l.names.items ≡ map bare_name (map (λ part. part.now) (take l.part-index l.parts))
