-- one edge more
use Rattle.std.proofs.Common.{◌+◌, ℕ, List, sym, subst}
use Rattle.omega_synth_rounds.specs.declared.rounds.RoundEdge.{RoundEdge}
use Rattle.omega_synth_game.specs.private.Making.{AreRoundEdges}
use Rattle.omega_synth_game.proofs.EdgesMade.{edges_more}
use Rattle.omega_synth_game.proofs.round_edges.round_edges.Goals as goal

pub loop-number-preserved : goal.loop-number-preserved
loop-number-preserved c =
    let end : ℕ = c.loop-number.number in
    subst (λ (edges : List RoundEdge). AreRoundEdges c.args.automaton.now c.args.kind (end + 1) edges) (sym c.in_ok-push.ensures.items)
    (edges_more c.args.automaton.now c.args.kind end c.loop-number.edges.items c.in_ok-edge.edge c.loop-number.invariant c.in_ok-edge.ensures.edge)
