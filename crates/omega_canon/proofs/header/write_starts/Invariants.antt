-- `write_starts`: the items before this one are written.
use Rattle.std.proofs.Common.{◌≡◌, ◌++◌, take}
use Rattle.std.specs.List.{flat_map}
use Rattle.omega_canon.specs.HeaderText.{start_line}
use Rattle.omega_canon.proofs.header.write_starts.Given as goal

abbrev pub invariant-loop-states : goal.invariant-loop-states
invariant-loop-states l = l.out.items ≡ l.fn.out.items ++ flat_map start_line (take l.states-index l.automaton.starts)
