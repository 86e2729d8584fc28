-- Closed walks through edges that make a formula hold.
use Rattle.std.proofs.Common.{◌≡◌, ℕ, ◌<◌, true, IsTrue, List, [], ◌∷◌, length, All, Contains, sym, ◌∙◌, arith}
use Rattle.std.proofs.lemmas.List.Elements.{All-head}
use Rattle.omega_hoa_acceptance.specs.Acceptance.{AccTree}
use Rattle.omega_graph.specs.Marks.{ListsAll, accepts_apart}
use Rattle.omega_graph.specs.Rules.{IsConnected}
use Rattle.omega_graph.specs.Walks.{EdgeSet, MarkedGraph, HasAccepting, IsAccepting, IsClosedEdgeWalk, marks_on}
use Rattle.omega_graph.proofs.Passing.{occurs_more}
use Rattle.omega_graph.proofs.Positive.{apart_same, holds_of_more}
use Rattle.omega_graph.proofs.Touring.{Tour, tour}
use Rattle.omega_graph.proofs.ClosedWalking.{on_edges}

module _ (graph : MarkedGraph) (edges : EdgeSet) where
  -- a closed walk that passes some edges and stays among all accepts
  pub passing_accepts : (some all walk : List ℕ) (formula : AccTree) → ListsAll edges all → IsClosedEdgeWalk graph edges walk
      → ((number : ℕ) → Contains some number → Contains walk number)
      → accepts_apart (marks_on graph some) (marks_on graph all) formula ≡ true → IsAccepting graph edges formula walk
  passing_accepts some all walk formula lists closed passes holds = record {
    closed = closed;
    accepted =
        sym (apart_same (marks_on graph walk) formula)
        ∙ holds_of_more (marks_on graph some) (marks_on graph walk) (marks_on graph all) (marks_on graph walk)
        (λ negated set. occurs_more graph negated set some walk passes)
        (λ negated set. occurs_more graph negated set walk all (λ number has. lists number (on_edges graph edges closed.loop_state walk closed.loop_state closed.leads number has)))
        formula holds;
  }

  -- so does a tour through edges of a connected set
  pub tour_accepts : (some all : List ℕ) (formula : AccTree) → IsConnected graph edges → All (λ number. IsTrue (edges number)) some
      → 0 < length some → ListsAll edges all
      → accepts_apart (marks_on graph some) (marks_on graph all) formula ≡ true → HasAccepting graph edges formula
  tour_accepts [] all formula connected inside longer lists holds = absurd (omega arith)
  tour_accepts (first ∷ others) all formula connected inside longer lists holds =
      let round : Tour graph edges connected first others first =
      tour graph edges connected first others first inside (All-head (λ number. IsTrue (edges number)) first others inside) in (
        round.walk,
        passing_accepts (first ∷ others) all round.walk formula lists
            (record { loop_state = (graph first).from; leads = round.leads; longer = round.longer }) round.passes holds,
      )
