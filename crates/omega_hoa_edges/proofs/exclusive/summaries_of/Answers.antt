-- The summary of one label more.
use Rattle.omega_hoa_edges.proofs.Summarized.{stands_at, summaries_more}
use Rattle.omega_hoa_edges.proofs.exclusive.summaries_of.Goals as goal

pub loop-index-preserved : goal.loop-index-preserved
loop-index-preserved c =
    rw (c.in_ok-push.ensures.items)
    (summaries_more c.args.labels.now c.loop-index.summaries.items c.loop-index.index c.index-labels-index.result c.in_ok-summary.summary c.loop-index.invariant
    (stands_at c.args.labels.now c.loop-index.index c.index-labels-index.result c.loop-index-test.true c.index-labels-index.is) c.in_ok-summary.ensures.summary)
