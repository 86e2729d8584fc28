-- no edge meets the marks
use Rattle.std.proofs.Common.{◌≡◌, ◌<◌, false, length, subst, ◌∙◌, arith}
use Rattle.std.proofs.lemmas.List.{get_or_default}
use Rattle.omega_graph.specs.Marks.{meets}
use Rattle.omega_graph.proofs.Passing.{unmet}
use Rattle.omega_graph_accepting_walk.specs.Rows.{row_at}
use Rattle.omega_graph_accepting_walk.specs.private.Search.{graph_of}
use Rattle.omega_graph_accepting_walk.proofs.meeting.first_edge_meeting.Goals as goal

pub returns-clause-none : goal.returns-clause-none
returns-clause-none c =
    unmet (graph_of c.args.search.now) c.args.negated c.args.set c.args.edges.now
    (λ number has.
    let below : has.0 < length c.args.edges.now = has.1 in
    subst (λ edge. meets c.args.negated c.args.set (row_at c.args.search.now.marks.now edge) ≡ false)
    (get_or_default c.args.edges.now has.0 0 number has.1 ∙ has.2) (c.loop-edge.invariant has.0 (omega arith)))
