-- `labels_of`: one label more.
use Rattle.std.proofs.Common.{◌<◌, length, arith, ◌∙◌}
use Rattle.omega_hoa_edges.proofs.Rows.{each_grown}
use Rattle.omega_hoa_edges.specs.Labels.{label_at}
use Rattle.omega_hoa_diagnostics.proofs.labels.labels_of.Goals as goal

pub loop-at-preserved : goal.loop-at-preserved
loop-at-preserved c =
    let below : c.loop-at.at < length c.args.state.now.edges = omega (arith, c.loop-at-test.true, c.len-at-end.ensures) in
    c.in_ok-push.ensures.items
    ∙ each_grown (label_at c.args.count c.args.state.now) c.args.state.now.edges c.loop-at.at c.edge-edge.result c.loop-at.labels.items c.in_ok-label.label
    below c.edge-edge.ensures c.loop-at.invariant c.in_ok-label.ensures.label
