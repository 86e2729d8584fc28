-- the edges so far
use Rattle.std.proofs.Common.{◌≡◌, ◌++◌, ◌∷◌, [], inl, List, length, take, refl, sym, ap, subst, ◌∙◌, arith}
use Rattle.std.specs.List.{All}
use Rattle.std.proofs.lemmas.List.{take_more}
use Rattle.std.proofs.lemmas.List.Elements.{All-contains, All-push}
use Rattle.std.proofs.lemmas.Option.{slice_get_read}
use Rattle.omega_hoa_label.specs.Label.{LabelTree}
use Rattle.omega_hoa_label.specs.Shape.{FitsALabel}
use Rattle.omega_hoa_automaton.specs.declared.edge.Edge.{Edge}
use Rattle.omega_hoa_edges.specs.AutomatonLabels.{each_by_index}
use Rattle.omega_lang_complement.specs.Written.{turned_edge, turned_with}
use Rattle.omega_lang_complement.proofs.Faults.{unwritten_refused}
use Rattle.omega_hoa_edges.proofs.Rows.{each_grown, each_length, each_read, take_all}
use Rattle.omega_hoa_edges.specs.Fitting.{FitsAText}
use Rattle.omega_hoa_edges.specs.Labels.{is_full, label_at}
use Rattle.omega_hoa_edges.proofs.Refusals.{passed_on}
use Rattle.omega_lang_complement.proofs.turning.turned_edges.Goals as goal

pub edge-edge-requires : goal.edge-edge-requires
edge-edge-requires c = omega (arith, c.loop-at-test.true, ap length c.requires.labels, each_length (label_at c.args.count c.args.state.now) 0 c.args.state.now.edges)

pub turned_edge-requires : goal.turned_edge-requires
turned_edge-requires c =
    All-contains FitsALabel c.args.labels.now c.index-labels-at.result c.requires.fits (c.loop-at.at, c.loop-at-test.true, sym c.index-labels-at.is)

pub loop-at-preserved : goal.loop-at-preserved
loop-at-preserved c =
    let long : length c.args.labels.now ≡ length c.args.state.now.edges =
    ap length c.requires.labels ∙ each_length (label_at c.args.count c.args.state.now) 0 c.args.state.now.edges in
    let label : c.index-labels-at.result ≡ label_at c.args.count c.args.state.now c.loop-at.at c.edge-edge.result =
    each_read (label_at c.args.count c.args.state.now) c.args.state.now.edges c.args.labels.now c.loop-at.at c.index-labels-at.result c.edge-edge.result c.requires.labels c.loop-at-test.true
    c.index-labels-at.is (omega (arith, c.loop-at-test.true, long)) c.edge-edge.ensures in
    record {
      edges = c.in_ok-push.ensures.ok
          ∙ each_grown (turned_edge c.args.count c.args.state.now) c.args.state.now.edges c.loop-at.at c.edge-edge.result c.loop-at.edges c.in_ok-turned.turned
          (omega (arith, c.loop-at-test.true, long)) c.edge-edge.ensures c.loop-at.invariant.edges
          (c.in_ok-turned.ensures.edge ∙ ap (λ (l : LabelTree). turned_with l c.args.state.now c.edge-edge.result) label);
      written = subst (All FitsAText) (sym (take_more c.args.labels.now c.loop-at.at c.index-labels-at.result c.loop-at-test.true
          ∙ ap (λ (l : LabelTree). take c.loop-at.at c.args.labels.now ++ l ∷ []) (sym c.index-labels-at.is)))
          (All-push FitsAText (take c.loop-at.at c.args.labels.now) c.index-labels-at.result c.loop-at.invariant.written c.in_ok-turned.ensures.written);
    }

pub returns-clause-edges : goal.returns-clause-edges
returns-clause-edges c =
    let long : length c.args.labels.now ≡ length c.args.state.now.edges =
    ap length c.requires.labels ∙ each_length (label_at c.args.count c.args.state.now) 0 c.args.state.now.edges in
    c.loop-at.invariant.edges
    ∙ ap (λ (es : List Edge). each_by_index (turned_edge c.args.count c.args.state.now) 0 es) (take_all c.args.state.now.edges c.loop-at.at (omega (arith, c.loop-at-test.false, long)))

pub returns-clause-written : goal.returns-clause-written
returns-clause-written c = subst (All FitsAText) (take_all c.args.labels.now c.loop-at.at c.loop-at-test.false) c.loop-at.invariant.written

pub returns-in_err-turned-clause-err : goal.returns-in_err-turned-clause-err
returns-in_err-turned-clause-err c =
    passed_on c.from_residual.result _ _ c.from_residual.ensures.1
    (unwritten_refused (is_full c.args.count c.args.state.now) c.args.labels.now c.args.state.now.number c.index-labels-at.result _
    (inl (c.loop-at.at, slice_get_read c.args.labels.now (length c.args.labels.now) c.loop-at.at c.index-labels-at.result refl c.loop-at-test.true c.index-labels-at.is))
    c.in_err-turned.ensures.err)
