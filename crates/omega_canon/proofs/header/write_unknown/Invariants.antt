-- `write_unknown`: the items before this one are written.
use Rattle.std.proofs.Common.{◌≡◌, ◌++◌, take}
use Rattle.std.specs.List.{flat_map}
use Rattle.omega_canon.specs.HeaderText.{unknown_line}
use Rattle.omega_canon.proofs.header.write_unknown.Given as goal

abbrev pub invariant-loop-header : goal.invariant-loop-header
invariant-loop-header l = l.out.items ≡ l.fn.out.items ++ flat_map unknown_line (take l.header-index l.automaton.unknown)
