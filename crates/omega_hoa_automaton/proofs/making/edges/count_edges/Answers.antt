-- `count_edges`: too many edges so far are too many.
use Rattle.std.proofs.Common.{arith}
use Rattle.omega_hoa_automaton.proofs.EdgeLemmas.{edges_within}
use Rattle.omega_hoa_automaton.proofs.making.edges.count_edges.Goals as goal

pub returns-then-more-count : goal.returns-then-more-count
returns-then-more-count c =
    let within = edges_within c.args.states.now c.loop-state.state-index c.state-item.result c.loop-state-test.true c.state-item.is in
    λ few. omega arith
