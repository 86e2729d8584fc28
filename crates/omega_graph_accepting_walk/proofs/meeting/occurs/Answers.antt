-- the edge that meets the marks
use Rattle.std.proofs.Common.{sym}
use Rattle.omega_graph.proofs.Passing.{met_on}
use Rattle.omega_graph_accepting_walk.specs.private.Search.{graph_of}
use Rattle.omega_graph_accepting_walk.proofs.meeting.occurs.Goals as goal

pub returns-in-Some : goal.returns-in-Some
returns-in-Some c =
    sym (met_on (graph_of c.args.search.now) c.args.negated c.args.set c.args.edges.now c.in-Some._edge
    c.in-Some.ensures.among c.in-Some.ensures.meets)
