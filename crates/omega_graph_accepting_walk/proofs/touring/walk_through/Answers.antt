-- the tour shows what all edges do
use Rattle.omega_graph_accepting_walk.specs.private.Search.{graph_of}
use Rattle.omega_graph_accepting_walk.proofs.Tours.{walk_shows}
use Rattle.omega_graph_accepting_walk.proofs.touring.walk_through.Goals as goal

pub returns-clause-shows : goal.returns-clause-shows
returns-clause-shows c =
    walk_shows (graph_of c.args.search.now) c.args.edges.now c.args.search.now.nodes.now c.requires.ready.formula c.in_ok-walk.walk.items c.in_ok-walk.ensures.shows
    c.passing_walks_accept.ensures c.in_ok-walk.ensures.closed
