use Rattle.omega_ltl_terms.proofs.Refused.{large_by, passed_on}
use Rattle.omega_ltl_deterministic.proofs.demand_graph.automaton_of_demands.Goals as goal

pub returns-in_err-tables : goal.returns-in_err-tables
returns-in_err-tables c = passed_on c.from_residual.result _ _ c.from_residual.ensures.1 (large_by _ _ c.in_err-tables.ensures.refused)
