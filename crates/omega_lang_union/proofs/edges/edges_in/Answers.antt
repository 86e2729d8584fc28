-- one edge more, and a label that is too deep
use Rattle.std.proofs.Common.{◌≡◌, ◌++◌, ◌<◌, [], ◌∷◌, List, length, map, take, sym, ap, ◌∙◌, arith}
use Rattle.std.proofs.lemmas.List.{map-append, take_all}
use Rattle.omega_hoa_automaton.specs.declared.edge.Edge.{Edge}
use Rattle.omega_hoa_syntax.specs.declared.raw_edge.RawEdge.{RawEdge}
use Rattle.omega_hoa_edges.proofs.Refusals.{large_weaker, passed_on}
use Rattle.omega_lang_runs.specs.Judging.{IsLabelWith}
use Rattle.omega_lang_trim.specs.Refusing.{IsDeepLabel}
use Rattle.omega_lang_trim.specs.Written.{edge_written}
use Rattle.omega_lang_trim.specs.private.Writing.{HaveDeepLabel}
use Rattle.omega_lang_union.specs.Parts.{Part, edge_in, edges_in}
use Rattle.omega_lang_union.specs.private.Operands.{part_of}
use Rattle.omega_lang_union.proofs.Parts.{edge_among, edges_next}
use Rattle.omega_lang_union.proofs.edges.edges_in.Goals as goal

pub returns-in_err-raw-clause-err : goal.returns-in_err-raw-clause-err
returns-in_err-raw-clause-err c =
    let part : Part = part_of c.args.operand.now in
    let edges : List Edge = c.args.state.now.edges in
    let below : c.loop-at.at < length edges = omega (arith, c.len-at-end.ensures, c.loop-at-test.true) in
    let edge : Edge = edge_in part c.args.state.now c.loop-at.at c.edge-edge.result in
    passed_on c.from_residual.result _ _ c.from_residual.ensures.1
    (large_weaker (IsLabelWith IsDeepLabel edge.label) (HaveDeepLabel (edges_in part c.args.state.now 0 edges))
    (λ deep. (edge, edge_among part c.args.state.now edges c.loop-at.at c.edge-edge.result below c.edge-edge.ensures, deep))
    _ c.in_err-raw.ensures.err)

pub loop-at-preserved : goal.loop-at-preserved
loop-at-preserved c =
    let part : Part = part_of c.args.operand.now in
    let edges : List Edge = c.args.state.now.edges in
    let below : c.loop-at.at < length edges = omega (arith, c.len-at-end.ensures, c.loop-at-test.true) in
    let edge : Edge = edge_in part c.args.state.now c.loop-at.at c.edge-edge.result in
    c.in_ok-push.ensures.ok
    ∙ ap (λ (raw : RawEdge). c.loop-at.edges ++ raw ∷ []) c.in_ok-raw.ensures.edge
    ∙ ap (λ (list : List RawEdge). list ++ edge_written edge ∷ []) c.loop-at.invariant
    ∙ sym (map-append edge_written (edges_in part c.args.state.now 0 (take c.loop-at.at edges)) (edge ∷ []))
    ∙ ap (map edge_written) (sym (edges_next part c.args.state.now edges c.loop-at.at c.edge-edge.result below c.edge-edge.ensures))

pub returns-clause-edges : goal.returns-clause-edges
returns-clause-edges c =
    let all : take c.loop-at.at c.args.state.now.edges ≡ c.args.state.now.edges =
    take_all c.loop-at.at c.args.state.now.edges (omega (arith, c.len-at-end.ensures, c.loop-at-test.false)) in
    c.loop-at.invariant ∙ ap (λ (list : List Edge). map edge_written (edges_in (part_of c.args.operand.now) c.args.state.now 0 list)) all
