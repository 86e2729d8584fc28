use Rattle.std.proofs.Common.{◌≡◌, ◌≤◌, ◌-◌, length, take}
use Rattle.std.specs.Prelude.{sum_by}
use Rattle.omega_ltl_translation.specs.Limits.{most_states}
use Rattle.omega_ltl_translation.specs.PastLimits.{AreReached, HaveEdges}
use Rattle.omega_ltl_translation.specs.private.Graphs.{IsExplored, states_of}
use Rattle.omega_ltl_translation.proofs.exploring.explore.Given as goal

-- the first states have their edges
abbrev pub invariant-loop-alloc : goal.invariant-loop-alloc
invariant-loop-alloc l = record {
  explored : IsExplored l.tables.shapes l.tables.strongs l.root (length l.edges.items) l.states.items l.edges.items;
  within : length l.edges.items ≤ length l.states.items;
  few : length l.edges.items ≤ most_states;
  reached : AreReached l.tables.shapes l.tables.strongs l.root l.states.items;
  counted : HaveEdges l.tables.shapes l.tables.strongs (take (length l.edges.items) l.states.items) (sum_by length l.edges.items);
  count : l.count ≡ sum_by length l.edges.items;
  found : states_of l.found.keys ≡ l.states.items;
}

abbrev pub decreases-loop-alloc : goal.decreases-loop-alloc
decreases-loop-alloc l = most_states - length l.edges.items
