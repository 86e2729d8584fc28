-- demands that were found to be below their count
use Rattle.std.proofs.Common.{arith}
use Rattle.std.proofs.lemmas.Result.{IfErr-weaker}
use Rattle.omega_ltl_terms.proofs.Refused.{large_by}
use Rattle.omega_ltl_deterministic.proofs.demand_graph.terms_of.Goals as goal

pub edges_of-requires-clause-below : goal.edges_of-requires-clause-below
edges_of-requires-clause-below c d h = omega (arith, c.len.ensures, c.are_below.ensures c.if-are_below.true d h)

pub returns-then-are_below : goal.returns-then-are_below
returns-then-are_below c = IfErr-weaker c.edges_of.result _ _ (large_by _) c.edges_of.ensures.refused
