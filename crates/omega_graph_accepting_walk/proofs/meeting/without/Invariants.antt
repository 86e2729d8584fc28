-- what is left of the edges before
use Rattle.std.proofs.Common.{◌≡◌, not, filter, take}
use Rattle.omega_graph.specs.Marks.{meets}
use Rattle.omega_graph_accepting_walk.specs.Rows.{row_at}
use Rattle.omega_graph_accepting_walk.proofs.meeting.without.Given as goal

abbrev pub invariant-loop-edge : goal.invariant-loop-edge
invariant-loop-edge l =
    l.left.items ≡ filter (λ edge. not (meets l.negated l.set (row_at l.search.marks.now edge))) (take l.edge-index l.edges)
