-- one edge more
use Rattle.std.proofs.Common.{◌<◌, ℕ, List, [], length, take, subst, sym, arith}
use Rattle.std.proofs.lemmas.List.{take_all}
use Rattle.omega_ltl_shapes.proofs.ItemLemmas.{front_more}
use Rattle.omega_ltl_translation.specs.declared.graph.GraphEdge.{GraphEdge}
use Rattle.omega_ltl_translation.specs.private.Joining.{AreJoined}
use Rattle.omega_ltl_translation.proofs.JoiningLemmas.{joined_more, joined_none}
use Rattle.omega_ltl_translation.proofs.joining.joined_edges.Goals as goal

pub loop-edge-init : goal.loop-edge-init
loop-edge-init c = subst (AreJoined []) (sym c.new-joined.ensures.items) joined_none

pub loop-edge-preserved : goal.loop-edge-preserved
loop-edge-preserved c =
    let i : ℕ = c.loop-edge.edge-index in
    let below : i < length c.args.edges.now = omega arith in
    front_more (λ (xs : List GraphEdge). AreJoined xs c.push_joined.new.joined.items) c.args.edges.now i _ below
    (joined_more (take i c.args.edges.now) _ c.loop-edge.joined.items c.push_joined.new.joined.items c.loop-edge.invariant c.in_ok-push_joined.ensures.adds)

pub returns-clause-joined : goal.returns-clause-joined
returns-clause-joined c =
    subst (λ (xs : List GraphEdge). AreJoined xs c.loop-edge.joined.items) (take_all c.loop-edge.edge-index c.args.edges.now (omega arith)) c.loop-edge.invariant
