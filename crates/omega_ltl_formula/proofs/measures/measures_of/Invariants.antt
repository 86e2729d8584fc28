-- the measures so far
use Rattle.omega_ltl_formula.specs.private.Measures.{AreMeasuresOf}
use Rattle.omega_ltl_formula.proofs.measures.measures_of.Given as goal

abbrev pub invariant-loop-node : goal.invariant-loop-node
invariant-loop-node l = AreMeasuresOf l.nodes l.node-index l.measures.items
