-- the refusals of the product and of its graph
use Rattle.omega_hoa_edges.proofs.Refusals.{passed_on}
use Rattle.omega_synth_check.specs.CounterRefusing.{not_graphed, not_joined}
use Rattle.omega_synth_check.proofs.letterless.letterless_beside.Goals as goal

pub returns-in_err-joint-clause-refused : goal.returns-in_err-joint-clause-refused
returns-in_err-joint-clause-refused c =
    passed_on c.from_residual.result _ _ c.from_residual.ensures.1 (not_joined c.in_err-joint.ensures.refused)

pub returns-in_err-graph-clause-refused : goal.returns-in_err-graph-clause-refused
returns-in_err-graph-clause-refused c =
    passed_on c.from_residual-in_err-graph.result _ _ c.from_residual-in_err-graph.ensures.1 (not_graphed c.in_err-graph.ensures.refused)
