-- one edge more, and why it can't be written
use Rattle.std.proofs.Common.{◌≡◌, ◌++◌, ◌<◌, ℕ, Bool, List, length, map, take, sym, ap, subst, ◌∙◌, arith}
use Rattle.std.proofs.lemmas.List.{map-append, take_all}
use Rattle.omega_hoa_automaton.specs.declared.edge.Edge.{Edge}
use Rattle.omega_hoa_syntax.specs.declared.raw_edge.RawEdge.{RawEdge}
use Rattle.omega_hoa_edges.proofs.Refusals.{large_weaker, passed_on}
use Rattle.omega_lang_trim.specs.Trimmed.{edges_kept, keeps_labels}
use Rattle.omega_lang_trim.specs.Written.{edge_written}
use Rattle.omega_lang_trim.specs.private.Writing.{HaveDeepLabel}
use Rattle.omega_lang_trim.proofs.Kept.{alone_among, edges_next, own}
use Rattle.omega_lang_trim.proofs.edges.kept_edges.Goals as goal

pub returns-in_err-push_kept-clause-err : goal.returns-in_err-push_kept-clause-err
returns-in_err-push_kept-clause-err c =
    let edges : List Edge = c.args.state.now.edges in
    let as_written : Bool = c.keeps_labels.result in
    let below : c.loop-at.at < length edges = omega (arith, c.len-at-end.ensures, c.loop-at-test.true) in
    passed_on c.from_residual.result _ _ c.from_residual.ensures.1
    (large_weaker _ (HaveDeepLabel (edges_kept c.args.kept.now.keys (keeps_labels c.args.kept.now.keys c.args.state.now) c.args.count c.args.state.now 0 edges))
    (λ deep. subst (λ (b : Bool). HaveDeepLabel (edges_kept c.args.kept.now.keys b c.args.count c.args.state.now 0 edges)) c.keeps_labels.ensures
    (deep.0, alone_among c.args.kept.now.keys as_written c.args.count c.args.state.now edges c.loop-at.at c.edge-edge.result below c.edge-edge.ensures deep.0 deep.1, deep.2))
    _ c.in_err-push_kept.ensures.err)

pub loop-at-preserved : goal.loop-at-preserved
loop-at-preserved c =
    let kept : List ℕ = c.args.kept.now.keys in
    let edges : List Edge = c.args.state.now.edges in
    let as_written : Bool = c.keeps_labels.result in
    let below : c.loop-at.at < length edges = omega (arith, c.len-at-end.ensures, c.loop-at-test.true) in
    let one : List Edge = own kept as_written c.args.count c.args.state.now c.loop-at.at c.edge-edge.result in
    c.in_ok-push_kept.ensures.edges
    ∙ ap (λ (list : List RawEdge). list ++ map edge_written one) c.loop-at.invariant
    ∙ sym (map-append edge_written (edges_kept kept as_written c.args.count c.args.state.now 0 (take c.loop-at.at edges)) one)
    ∙ ap (map edge_written) (sym (edges_next kept as_written c.args.count c.args.state.now edges c.loop-at.at c.edge-edge.result below c.edge-edge.ensures))

pub returns-clause-edges : goal.returns-clause-edges
returns-clause-edges c =
    let kept : List ℕ = c.args.kept.now.keys in
    let all : take c.loop-at.at c.args.state.now.edges ≡ c.args.state.now.edges =
    take_all c.loop-at.at c.args.state.now.edges (omega (arith, c.len-at-end.ensures, c.loop-at-test.false)) in
    c.loop-at.invariant
    ∙ ap (λ (list : List Edge). map edge_written (edges_kept kept c.keeps_labels.result c.args.count c.args.state.now 0 list)) all
    ∙ ap (λ (b : Bool). map edge_written (edges_kept kept b c.args.count c.args.state.now 0 c.args.state.now.edges)) c.keeps_labels.ensures
