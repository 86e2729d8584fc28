-- one atom more, and at the end a closed walk
use Rattle.std.proofs.Common.{◌<◌, ◌≤◌, length, get_or, arith, rules}
use Rattle.omega_graph_accepting_walk.specs.private.Search.{graph_of}
use Rattle.omega_graph_accepting_walk.proofs.Tours.{atom_more, atoms_more}
use Rattle.omega_graph_accepting_walk.proofs.touring.tour.Goals as goal

pub loop-node-preserved : goal.loop-node-preserved
loop-node-preserved c =
    let below : c.loop-node.node-index < length c.args.search.now.nodes.now = omega arith in (
      c.in_ok-meet_node.ensures.walked,
      atoms_more (graph_of c.args.search.now) c.args.edges.now c.loop-node.walked.walk.items c.in_ok-meet_node.ensures.kept.0 c.meet_node.new.walked.walk.items
          c.args.search.now.nodes.now c.loop-node.node-index below c.in_ok-meet_node.ensures.kept.1 c.loop-node.invariant.1 _
          c.in_ok-meet_node.ensures.shows (search rules),
    )

pub returns-clause-shows : goal.returns-clause-shows
returns-clause-shows c =
    let all : length c.args.search.now.nodes.now ≤ c.loop-node.node-index = omega arith in
    λ k d below.
    atom_more (graph_of c.args.search.now) c.args.edges.now c.loop-node.walked.walk.items c.in_ok-walk.ensures.kept.0 c.in_ok-walk.walk.items
    (get_or c.args.search.now.nodes.now k d) c.in_ok-walk.ensures.kept.1 (c.loop-node.invariant.1 k d (omega arith))
