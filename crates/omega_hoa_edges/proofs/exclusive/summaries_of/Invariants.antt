-- The summaries so far are those of the first labels.
use Rattle.omega_hoa_edges.specs.Summaries.{AreSummariesOf}
use Rattle.omega_hoa_edges.proofs.exclusive.summaries_of.Given as goal

abbrev pub invariant-loop-index : goal.invariant-loop-index
invariant-loop-index l = AreSummariesOf l.labels l.summaries.items l.index
