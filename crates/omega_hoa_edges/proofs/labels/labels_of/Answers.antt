-- the labels so far, and the one that is no label
use Rattle.std.proofs.Common.{◌≡◌, ◌<◌, Some, length, refl, slice_get, sym, subst, ◌∙◌, arith}
use Rattle.std.specs.List.{All}
use Rattle.std.proofs.lemmas.List.Elements.{All-push}
use Rattle.std.proofs.lemmas.Option.{slice_get_read}
use Rattle.std.proofs.lemmas.Result.{err_from_is_err_and}
use Rattle.omega_hoa_label.specs.Shape.{FitsALabel}
use Rattle.omega_hoa_edges.specs.Judged.{HasLargeEdge}
use Rattle.omega_hoa_edges.specs.AutomatonLabels.{labels_of}
use Rattle.omega_hoa_edges.proofs.Rows.{each_grown, each_there}
use Rattle.omega_hoa_edges.specs.Labels.{label_at}
use Rattle.omega_hoa_edges.proofs.Refusals.{large_weaker}
use Rattle.omega_hoa_edges.proofs.labels.labels_of.Goals as goal

pub returns-in_err-label-clause-err : goal.returns-in_err-label-clause-err
returns-in_err-label-clause-err c =
    let p = err_from_is_err_and c.from_residual-in_err-label.result c.from_residual-in_err-label.ensures.1 in
    let below : c.loop-at.at < length c.args.state.now.edges = omega (arith, c.loop-at-test.true, c.len-at-end.ensures) in
    let there : slice_get (labels_of c.args.count c.args.state.now) c.loop-at.at ≡ Some (label_at c.args.count c.args.state.now c.loop-at.at c.edge-edge.result) =
    each_there (label_at c.args.count c.args.state.now) c.args.state.now.edges c.loop-at.at c.edge-edge.result
    (slice_get_read c.args.state.now.edges (length c.args.state.now.edges) c.loop-at.at c.edge-edge.result refl below c.edge-edge.ensures) in
    rw (p.1, p.2)
    (large_weaker (FitsALabel (label_at c.args.count c.args.state.now c.loop-at.at c.edge-edge.result) → ⊥) (HasLargeEdge (labels_of c.args.count c.args.state.now))
    (λ unfit. (label_at c.args.count c.args.state.now c.loop-at.at c.edge-edge.result, (c.loop-at.at, there), unfit))
    c.in_err-label.field-0.0 c.in_err-label.ensures.err)

pub loop-at-preserved : goal.loop-at-preserved
loop-at-preserved c =
    let below : c.loop-at.at < length c.args.state.now.edges = omega (arith, c.loop-at-test.true, c.len-at-end.ensures) in
    let fits : FitsALabel c.in_ok-label.label = subst FitsALabel (sym c.in_ok-label.ensures.label) c.in_ok-label.ensures.fits in
    record {
      labels = c.in_ok-push.ensures.items
          ∙ each_grown (label_at c.args.count c.args.state.now) c.args.state.now.edges c.loop-at.at c.edge-edge.result c.loop-at.labels.items c.in_ok-label.label
          below c.edge-edge.ensures c.loop-at.invariant.labels c.in_ok-label.ensures.label;
      fits = subst (All FitsALabel) (sym c.in_ok-push.ensures.items) (All-push FitsALabel c.loop-at.labels.items c.in_ok-label.label c.loop-at.invariant.fits fits);
    }
