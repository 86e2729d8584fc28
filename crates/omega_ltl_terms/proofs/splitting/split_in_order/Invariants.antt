use Rattle.std.proofs.Common.{take}
use Rattle.omega_ltl_terms.specs.private.Splitting.{AreSplit, AreSplitInOrder}
use Rattle.omega_ltl_terms.proofs.splitting.split_in_order.Given as goal

-- the edges so far are split
abbrev pub invariant-loop-at : goal.invariant-loop-at
invariant-loop-at l = record {
  split : AreSplit (take l.at l.edges) l.parts.items;
  pieces : AreSplitInOrder (take l.at l.edges) l.parts.items;
}
