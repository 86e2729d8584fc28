-- `write_values`: the items before this one are written.
use Rattle.std.proofs.Common.{◌≡◌, ◌++◌, take}
use Rattle.std.specs.List.{flat_map}
use Rattle.omega_canon.specs.HeaderText.{value_part}
use Rattle.omega_canon.proofs.header.write_values.Given as goal

abbrev pub invariant-loop-value : goal.invariant-loop-value
invariant-loop-value l = l.out.items ≡ l.fn.out.items ++ flat_map value_part (take l.value-index l.values)
