-- Walks of a graph are those of the graph with its edges turned, the other way round.
use Rattle.std.proofs.Common.{◌≡◌, ℕ, List, [], ◌∷◌, ◌++◌, sym, ap, ◌∙◌}
use Rattle.std.proofs.Math.ListN.{get_or-map}
use Rattle.omega_graph.specs.Graph.{Shape, edge_of, ends_at, marked}
use Rattle.omega_graph.specs.declared.edge.Edge.{Edge}
use Rattle.omega_graph.specs.Walks.{EdgeSet, IsEdgeWalk, MarkedGraph}
use Rattle.omega_graph.proofs.ClosedWalking.{joined}
use Rattle.omega_lang_trim.specs.private.Placed.{reversed, turned}

-- the edges of one graph are those of the other, turned
abbrev pub AreTurned : MarkedGraph → MarkedGraph → Type 0
AreTurned graph other = (number : ℕ) → ((other number).from ≡ (graph number).to) × ((other number).to ≡ (graph number).from)

pub walk_back : (graph other : MarkedGraph) (edges : EdgeSet) → AreTurned graph other → (from : ℕ) (walk : List ℕ) (to : ℕ) → IsEdgeWalk graph edges from walk to
    → (back : List ℕ) × IsEdgeWalk other edges to back from
walk_back graph other edges are from [] to leads = ([], sym leads)
walk_back graph other edges are from (number ∷ walk) to leads =
    let rest = walk_back graph other edges are (graph number).to walk to leads.2 in (
      rest.0 ++ number ∷ [],
      joined other edges to rest.0 (graph number).to (number ∷ []) from rest.1 (leads.0, (are number).0, (are number).1 ∙ leads.1),
    )

-- the ends in the turned graph
ends_turned : (shape : Shape) (number : ℕ) → ends_at (reversed shape) number ≡ turned (ends_at shape number)
ends_turned shape number = get_or-map turned shape.edges number (edge_of 0 0)

pub reversed_are : (shape : Shape) (marks : ℕ → List ℕ) → AreTurned (marked shape marks) (marked (reversed shape) marks)
reversed_are shape marks number =
    (ap (λ (e : Edge). e.from) (ends_turned shape number), ap (λ (e : Edge). e.to) (ends_turned shape number))

pub turned_back : (graph other : MarkedGraph) → AreTurned graph other → AreTurned other graph
turned_back graph other are number = (sym (are number).1, sym (are number).0)
