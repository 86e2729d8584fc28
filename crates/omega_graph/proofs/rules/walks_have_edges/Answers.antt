-- the first edge of the walk
use Rattle.std.proofs.Common.{ℕ, ◌<◌, IsTrue, List, [], ◌∷◌, length, arith}
use Rattle.omega_graph.specs.Walks.{EdgeSet, MarkedGraph, IsEdgeWalk}
use Rattle.omega_graph.proofs.rules.walks_have_edges.Goals as goal

first_edge : (graph : MarkedGraph) (edges : EdgeSet) (from : ℕ) (walk : List ℕ) (to : ℕ) → 0 < length walk → IsEdgeWalk graph edges from walk to
    → (number : ℕ) × IsTrue (edges number)
first_edge graph edges from [] to longer leads = absurd (omega arith)
first_edge graph edges from (number ∷ walk) to longer leads = (number, leads.0)

pub returns : goal.returns
returns c graph edges formula has =
    let closed = has.1.closed in
    first_edge graph edges closed.loop_state has.0 closed.loop_state closed.longer closed.leads
