use Rattle.std.proofs.Common.{take}
use Rattle.omega_ltl_shapes.specs.Terms.{HasItems}
use Rattle.omega_ltl_shapes.proofs.items.has_items.Given as goal

-- those so far are there
abbrev pub invariant-loop-item : goal.invariant-loop-item
invariant-loop-item l = HasItems (take l.item-index l.items) l.more
