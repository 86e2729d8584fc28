use Rattle.omega_ltl_terms.proofs.ShapeLemmas.{AreShapesBelow}
use Rattle.omega_ltl_terms.proofs.shapes.shapes_of_nodes.Given as goal

-- the shapes of the nodes so far
abbrev pub invariant-loop-number : goal.invariant-loop-number
invariant-loop-number l = AreShapesBelow l.nodes l.number l.shapes.items
