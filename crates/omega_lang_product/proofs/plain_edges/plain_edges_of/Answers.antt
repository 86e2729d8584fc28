use Rattle.std.proofs.Common.{◌<◌, List, [], ◌∷◌, ◌++◌, length, sym, ap, subst, ◌∙◌, arith}
use Rattle.omega_hoa_automaton.specs.declared.edge.Edge.{Edge}
use Rattle.omega_hoa_label.specs.Shape.{FitsALabel}
use Rattle.omega_lang_product.specs.Refusing.{HasUnfitEdge}
use Rattle.omega_lang_product.specs.PlainEdges.{View, plain_edge_of}
use Rattle.omega_lang_product.specs.private.Room.{HaveRoom}
use Rattle.omega_lang_product.specs.private.Tables.{row_of, view_of}
use Rattle.omega_lang_product.specs.declared.plain_edge.PlainEdge.{PlainEdge}
use Rattle.omega_hoa_edges.proofs.Refusals.{large_weaker, passed_on}
use Rattle.omega_lang_product.proofs.Rows.{row_contains, plain_edges_more}
use Rattle.omega_lang_product.proofs.plain_edges.plain_edges_of.Goals as goal

pub loop-at-preserved : goal.loop-at-preserved
loop-at-preserved c =
    let below : c.loop-at.at < length c.args.state.now.edges = omega (arith, c.loop-at-test.true, c.len-at-end.ensures) in
    c.in_ok-push.ensures.items
    ∙ ap (λ (t : PlainEdge). c.loop-at.row.items ++ t ∷ []) c.in_ok-tabled.ensures.edge
    ∙ ap (λ (t : PlainEdge). c.loop-at.row.items ++ t ∷ []) c.in_ok-plain_edge.ensures.ok
    ∙ ap (λ (row : List PlainEdge). row ++ plain_edge_of (view_of c.args.renumbering.now) c.args.state.now c.loop-at.at c.edge-edge.result ∷ []) c.loop-at.invariant
    ∙ sym (plain_edges_more (view_of c.args.renumbering.now) c.args.state.now c.args.state.now.edges c.loop-at.at c.edge-edge.result below c.edge-edge.ensures)

pub returns-in_err-plain_edge-clause-err : goal.returns-in_err-plain_edge-clause-err
returns-in_err-plain_edge-clause-err c =
    let below : c.loop-at.at < length c.args.state.now.edges = omega (arith, c.loop-at-test.true, c.len-at-end.ensures) in
    let view : View = view_of c.args.renumbering.now in
    let plain_edge : PlainEdge = plain_edge_of view c.args.state.now c.loop-at.at c.edge-edge.result in
    passed_on c.from_residual-in_err-plain_edge.result _ _ c.from_residual-in_err-plain_edge.ensures.1
    (large_weaker (FitsALabel plain_edge.label → ⊥) (HasUnfitEdge (row_of view c.args.state.now))
    (λ unfit. record { plain_edge = plain_edge; listed = row_contains view c.args.state.now c.loop-at.at c.edge-edge.result below c.edge-edge.ensures; unfit = unfit })
    _ c.in_err-plain_edge.ensures.err)

pub plain_edge_of-requires-clause-of_edge : goal.plain_edge_of-requires-clause-of_edge
plain_edge_of-requires-clause-of_edge c =
    let below : c.loop-at.at < length c.args.state.now.edges = omega (arith, c.loop-at-test.true, c.len-at-end.ensures) in
    subst (λ (edge : Edge). HaveRoom c.args.renumbering.now.before edge.marks) (sym c.edge-edge.ensures)
    (c.requires.edges c.loop-at.at c.edge-edge.result below)
