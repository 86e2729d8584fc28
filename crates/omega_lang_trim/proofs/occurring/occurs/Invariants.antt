-- no edge before meets the set
use Rattle.std.proofs.Common.{◌≡◌, ℕ, ◌<◌, false, get_or}
use Rattle.omega_graph.specs.Marks.{meets}
use Rattle.omega_graph_accepting_walk.specs.Rows.{row_at}
use Rattle.omega_lang_trim.proofs.occurring.occurs.Given as goal

abbrev pub invariant-loop-edge : goal.invariant-loop-edge
invariant-loop-edge l = (k : ℕ) → k < l.edge-index → meets l.negated l.set (row_at l.marks (get_or l.edges k 0)) ≡ false
