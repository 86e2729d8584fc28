-- the way is there, and leads on
use Rattle.std.proofs.Common.{[]}
use Rattle.omega_graph.specs.Graph.{marked}
use Rattle.omega_graph_accepting_walk.specs.private.Tours.{last_of}
use Rattle.omega_graph_accepting_walk.proofs.Tours.{reached_by, way_from}
use Rattle.omega_graph_accepting_walk.proofs.touring.way_on.Goals as goal

pub unreachable-requires : goal.unreachable-requires
unreachable-requires c =
    let none = rw c.in-None.is at c.in_ok-way.ensures.none in
    none (λ n. [])
    (reached_by (marked c.args.graph.now (λ n. [])) c.args.edges.now (last_of c.args.walk.now) c.args.next c.to.result c.from.result (c.requires.connected (λ n. []))
    c.requires.last c.requires.next c.to.ensures.to c.from.ensures.from)

pub returns-clause-leads : goal.returns-clause-leads
returns-clause-leads c = λ marks.
    let leads = rw c.in-Some.is at c.in_ok-way.ensures.walk in
    way_from (marked c.args.graph.now marks) c.args.edges.now (last_of c.args.walk.now) c.args.next c.to.result c.from.result c.in-Some.way.items
    c.to.ensures.to c.from.ensures.from (leads marks)
