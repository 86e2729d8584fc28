-- The formulas at the places and the nodes that are left make the formula, and each of these nodes finds its parts.
use Rattle.std.proofs.Common.{◌≡◌, [], drop}
use Rattle.omega_graph_accepting_walk.specs.private.Formulas.{ArePartsOf, HaveParts, trees_at, trees_left}
use Rattle.omega_graph_accepting_walk.proofs.flattening.add_formula.Given as goal

abbrev pub invariant-loop-node : goal.invariant-loop-node
invariant-loop-node l = record {
  parts : ArePartsOf l.nodes.items l.places;
  trees : trees_left (trees_at l.nodes.items l.places) (drop l.node-index l.node-items) ≡ trees_left [] l.node-items;
  enough : HaveParts (trees_at l.nodes.items l.places) (drop l.node-index l.node-items);
}
