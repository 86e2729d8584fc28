-- the marked ones of the nodes so far have copies
use Rattle.omega_ltl_satisfaction.specs.private.Parts.{AreCopies}
use Rattle.omega_ltl_satisfaction.proofs.parts.copied_nodes.Given as goal

abbrev pub invariant-loop-node : goal.invariant-loop-node
invariant-loop-node l = AreCopies l.formula.table l.copy l.marks l.node-index l.numbers.items
