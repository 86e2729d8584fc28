use Rattle.std.proofs.Common.{take}
use Rattle.omega_ltl_shapes.specs.Terms.{HasItemsOfBoth}
use Rattle.omega_ltl_shapes.proofs.items.items_of_both.Given as goal

-- the numbers of one list, and of the other so far
abbrev pub invariant-loop-item : goal.invariant-loop-item
invariant-loop-item l = HasItemsOfBoth l.one (take l.item-index l.other) l.both
