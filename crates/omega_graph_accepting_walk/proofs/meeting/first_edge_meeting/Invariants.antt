-- no edge before meets the marks
use Rattle.std.proofs.Common.{◌≡◌, ℕ, ◌<◌, false, get_or}
use Rattle.omega_graph.specs.Marks.{meets}
use Rattle.omega_graph_accepting_walk.specs.Rows.{row_at}
use Rattle.omega_graph_accepting_walk.proofs.meeting.first_edge_meeting.Given as goal

abbrev pub invariant-loop-edge : goal.invariant-loop-edge
invariant-loop-edge l = (k : ℕ) → k < l.edge-index → meets l.negated l.set (row_at l.search.marks.now (get_or l.edges k 0)) ≡ false
