-- Automata that are given as a table: their starts, and the ends and the marks of their edges.
use Rattle.std.specs.Prelude.{◌≡◌, ℕ, ◌↔◌, ◌<◌, List, [], ◌∷◌, All, Contains, Some, map, slice_index_or}
use Rattle.omega_hoa_acceptance.specs.Acceptance.{AccTree, holds}
use Rattle.omega_hoa_automaton.specs.Automaton.{BodyEdge, Description, edge_at, edge_count, edges_of}
use Rattle.omega_graph.specs.declared.edge.Edge.{Edge}
use Rattle.omega_lang_runs.specs.Lasso.{IsUsable, marks_at}

-- the first state of a list, or 0 if it is empty
abbrev pub first_of : List ℕ → ℕ
first_of [] = 0
first_of (state ∷ states) = state

-- the ends of an edge: the state that it leaves and the first of its targets
abbrev pub ends_of : BodyEdge → Edge
ends_of edge = record { from = edge.source.number; to = first_of edge.edge.targets }

-- each start and each edge lists one state
pub record ListsOne (a : Description) : Type 0 where
  pub starts : (start : List ℕ) → Contains a.starts start → start ≡ first_of start ∷ []
  pub edges :
      (number : ℕ) (edge : BodyEdge) → edge_at a number ≡ Some edge
      → edge.edge.targets ≡ first_of edge.edge.targets ∷ []

-- each edge has the marks of its row, in any order and number
abbrev pub HasMarks : Description → List (List ℕ) → Type 0
HasMarks a marks =
    (number set : ℕ) → holds set (slice_index_or marks number []) ≡ holds set (marks_at a number)

-- the numbers are exactly those of the usable edges
pub record AreUsableEdges (a : Description) (numbers : List ℕ) : Type 0 where
  pub below : All (λ number. number < edge_count a) numbers
  pub exact : (number : ℕ) (edge : BodyEdge) → edge_at a number ≡ Some edge
      → Contains numbers number ↔ IsUsable edge

-- an automaton, whose starts and edges list one state each, has these starts, and edges with these ends and marks, and
-- accepts by this formula
pub record IsTabled (starts : List ℕ) (ends : List Edge) (marks : List (List ℕ)) (formula : AccTree)
    (a : Description) : Type 0 where
  pub single : ListsOne a
  pub starts_are : map first_of a.starts ≡ starts
  pub ends_are : map ends_of (edges_of a) ≡ ends
  pub marks_are : HasMarks a marks
  pub formula_is : a.acceptance ≡ formula

-- all edges of an automaton are usable
abbrev pub AllAreUsable : Description → Type 0
AllAreUsable a = (number : ℕ) (edge : BodyEdge) → edge_at a number ≡ Some edge → IsUsable edge
