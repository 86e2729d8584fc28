-- with each marked node from here on its operands are marked
use Rattle.std.proofs.Common.{◌≤◌, length}
use Rattle.omega_ltl_satisfaction.specs.private.Wanted.{IsWanting}
use Rattle.omega_ltl_satisfaction.proofs.wanted.wanted_nodes.Given as goal

abbrev pub invariant-loop-at : goal.invariant-loop-at
invariant-loop-at l = IsWanting l.formula.table.nodes l.number l.at l.wanted.items × (l.at ≤ length l.formula.table.nodes)

abbrev pub decreases-loop-at : goal.decreases-loop-at
decreases-loop-at l = l.at
