-- the walk has marks, and comes to an edge that meets the set
use Rattle.std.proofs.Common.{length, sym, subst}
use Rattle.omega_graph.proofs.Passing.{met_on}
use Rattle.omega_graph_accepting_walk.specs.private.Search.{HaveMarks, graph_of}
use Rattle.omega_graph_accepting_walk.proofs.Tours.{among_below, onward_among}
use Rattle.omega_graph_accepting_walk.proofs.touring.meet_set.Goals as goal

pub occurs_by-requires-clause-edges : goal.occurs_by-requires-clause-edges
occurs_by-requires-clause-edges c =
    subst (HaveMarks c.args.search.now) (sym c.as_slice.ensures.value)
    (among_below (length c.args.search.now.marks.now) c.args.edges.now c.args.walked.now.walk.items c.requires.marks
    (onward_among (graph_of c.args.search.now) c.args.edges.now c.args.walked.now.walk.items c.requires.walked.onward))

pub returns-in_ok-pass-clause-shows : goal.returns-in_ok-pass-clause-shows
returns-in_ok-pass-clause-shows c = λ whole.
    met_on (graph_of c.args.search.now) c.args.negated c.args.set c.pass.new.walked.walk.items c.in-Some.edge
    c.in_ok-pass.ensures.passed c.in-Some.ensures.meets
