-- one edge more
use Rattle.std.proofs.Common.{◌≡◌, ◌<◌, ◌+◌, ℕ, List, [], ◌∷◌, ◌++◌, length, get_or, take, subst, sym, arith}
use Rattle.std.specs.List.{AllZip}
use Rattle.std.proofs.lemmas.List.{take_all}
use Rattle.std.proofs.lemmas.Slice.Zip.{all_zipped_more}
use Rattle.omega_ltl_shapes.proofs.ItemLemmas.{take_read}
use Rattle.omega_ltl_translation.specs.declared.joining.JoinedEdge.{JoinedEdge}
use Rattle.omega_ltl_translation.specs.private.Written.{IsWrittenEdge}
use Rattle.omega_ltl_translation.proofs.edges.written_edges.Goals as goal

pub loop-edge-init : goal.loop-edge-init
loop-edge-init c = subst (AllZip (IsWrittenEdge c.args.sets) []) (sym c.new-written.ensures) tt

pub loop-edge-preserved : goal.loop-edge-preserved
loop-edge-preserved c =
    let joined : List JoinedEdge = c.args.joined.now in
    let i : ℕ = c.loop-edge.edge-index in
    let here : c.edge-item.result ≡ get_or joined i c.edge-item.result = cc in
    let below : i < length joined = omega arith in
    subst (AllZip (IsWrittenEdge c.args.sets) (take (i + 1) joined)) (sym c.in_ok-push.ensures.ok)
    (subst (λ (xs : List JoinedEdge). AllZip (IsWrittenEdge c.args.sets) xs (c.loop-edge.written ++ c.in_ok-one.one ∷ [])) (take_read joined i c.edge-item.result below here)
    (all_zipped_more (IsWrittenEdge c.args.sets) (take i joined) c.loop-edge.written c.edge-item.result c.in_ok-one.one c.loop-edge.invariant c.in_ok-one.ensures.edge))

pub returns-clause-edges : goal.returns-clause-edges
returns-clause-edges c =
    subst (λ (xs : List JoinedEdge). AllZip (IsWrittenEdge c.args.sets) xs c.loop-edge.written) (take_all c.loop-edge.edge-index c.args.joined.now (omega arith)) c.loop-edge.invariant

pub written_edge-requires : goal.written_edge-requires
written_edge-requires c =
    let i : ℕ = c.loop-edge.edge-index in
    let below : i < length c.args.joined.now = omega arith in
    let here : c.edge-item.result ≡ get_or c.args.joined.now i c.edge-item.result = cc in
    c.requires c.edge-item.result (i, below, sym here)
