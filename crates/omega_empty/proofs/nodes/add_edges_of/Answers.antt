-- one edge more
use Rattle.std.proofs.Common.{◌≡◌, ℕ, ◌<◌, ◌++◌, length, get_or, ap, ◌∙◌, arith}
use Rattle.omega_empty.proofs.making.Rows.{edges_more, one_node}
use Rattle.omega_empty.proofs.nodes.add_edges_of.Goals as goal

pub loop-at-preserved : goal.loop-at-preserved
loop-at-preserved c =
    let index : ℕ = c.loop-at.at in
    let here : c.edge-edge.result ≡ get_or c.args.state.now.edges index c.edge-edge.result = c.edge-edge.ensures in
    let below : index < length c.args.state.now.edges = omega (arith, c.len-at-end.ensures, c.loop-at-test.true) in (
      omega (arith, c.loop-at.invariant.0),
      edges_more c.args.judged.now.kind c.args.judged.now.automaton c.args.judged.now.usable c.args.counter c.args.number index c.args.state.now
          c.edge-edge.result c.loop-at.builder c.args.builder.now c.add_if_usable.new.builder below here c.loop-at.invariant.1
          (c.in_ok-add_if_usable.ensures.ok
          ∙ ap (λ n. c.loop-at.builder ++ one_node c.args.judged.now.kind c.args.judged.now.automaton c.args.judged.now.usable c.args.counter n (record { source = c.args.state.now; edge = c.edge-edge.result })) c.loop-at.invariant.0),
    )
