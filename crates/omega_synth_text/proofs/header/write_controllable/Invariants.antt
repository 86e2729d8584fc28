-- the numbers so far
use Rattle.std.proofs.Common.{◌≡◌, ◌++◌, map, take}
use Rattle.std.specs.List.{flat_map}
use Rattle.omega_canon.specs.HeaderText.{value_part}
use Rattle.omega_hoa_syntax.specs.declared.header_value.HeaderValue.TheVariants as value
use Rattle.omega_synth_text.proofs.header.write_controllable.Given as goal

abbrev pub invariant-loop-number : goal.invariant-loop-number
invariant-loop-number l = l.out.items ≡ l.initial.out.items ++ flat_map value_part (map value.Number (take l.number-index l.controlled))
