-- What holds in the loop of `count_bare`: no alias so far, and those that are no parentheses are counted.
use Rattle.std.proofs.Common.{◌≡◌, ◌≤◌, count_by, false, take}
use Rattle.std.specs.List.{list_any}
use Rattle.omega_hoa_label.specs.Bare.{is_alias, is_bare}
use Rattle.omega_hoa_label.proofs.notation.count_bare.Given as goal

abbrev pub invariant-loop-node : goal.invariant-loop-node
invariant-loop-node l = record {
  none : list_any is_alias (take l.node-index l.nodes) ≡ false;
  counted : l.count ≡ count_by is_bare (take l.node-index l.nodes);
  within : l.count ≤ l.node-index;
}
