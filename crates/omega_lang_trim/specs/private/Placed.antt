-- The graph of an automaton for the search of its useful states, and what the search finds in it.
use Rattle.std.specs.Prelude.{◌≡◌, ◌↔◌, ℕ, ◌+◌, ◌-◌, ◌^◌, ◌<◌, Bool, false, IsTrue}
use Rattle.std.specs.Prelude.{List, Contains, length, map, nat_eq, slice_index_or}
use Rattle.std.specs.List.{position_or_len}
use Rattle.std.specs.List.Sorted.{IsStrictlyIncreasing}
use Rattle.omega_hoa_acceptance.specs.Acceptance.{AccTree, accepts}
use Rattle.omega_hoa_automaton.specs.Automaton.{BodyEdge, Description, edges_of}
use Rattle.omega_hoa_edges.specs.AutomatonLabels.{defined_numbers}
use Rattle.omega_graph.specs.Graph.{AreStates, Shape, edge_of, listed}
use Rattle.omega_graph.specs.Reaching.{TellReached}
use Rattle.omega_graph.specs.declared.edge.Edge.{Edge}
use Rattle.omega_graph.specs.Walks.{EdgeSet, HasAccepting, IsEdgeWalk, MarkedGraph, marks_on}
use Rattle.omega_graph_accepting_walk.specs.Rows.{graph_with}
use Rattle.omega_lang_runs.specs.Lasso.{marks_of}
use Rattle.omega_lang_lasso_search.specs.Tabled.{first_of}

-- there are so few numbers that their count, and one more, is a number of the graph
abbrev pub IsFew : List ℕ → Type 0
IsFew numbers = length numbers < 2 ^ 32 - 1

-- the place of a state among the defined ones; their count for all others, which no edge leaves
abbrev pub place_of : Description → ℕ → ℕ
place_of a number = position_or_len (nat_eq number) (defined_numbers a)

-- the edge of the graph for an edge of the body, by the numbers of the defined states
abbrev pub placed_in : List ℕ → BodyEdge → Edge
placed_in numbers edge = edge_of (position_or_len (nat_eq edge.source.number) numbers)
    (position_or_len (nat_eq (first_of edge.edge.targets)) numbers)

-- the graph: its states are the places, and its edges those of the body
abbrev pub shape_of : Description → Shape
shape_of a = record {
  states = length a.defined + 1;
  edges = map (placed_in (defined_numbers a)) (edges_of a);
}

-- the marks of each edge
abbrev pub rows_of : Description → List (List ℕ)
rows_of a = map marks_of (edges_of a)

-- the graph with the marks of its edges
abbrev pub graph_of : Description → MarkedGraph
graph_of a = graph_with (shape_of a) (rows_of a)

-- the places of the starts
abbrev pub sources_of : Description → List ℕ
sources_of a = map (λ start. place_of a (first_of start)) a.starts

-- an edge from its end to its beginning
abbrev pub turned : Edge → Edge
turned edge = edge_of edge.to edge.from

-- a graph with each edge turned
abbrev pub reversed : Shape → Shape
reversed shape = record { states = shape.states; edges = map turned shape.edges }

-- an accepting closed walk in a set of edges begins in a state
pub record LoopsAt (graph : MarkedGraph) (edges : EdgeSet) (formula : AccTree)
    (state : ℕ) : Type 0 where
  pub cycle : List ℕ
  pub leads : IsEdgeWalk graph edges state cycle state
  pub longer : 0 < length cycle
  pub accepted : IsTrue (accepts (marks_on graph cycle) formula)

-- one of some edges leaves a state, and there is an accepting closed walk in them
pub record IsGoalOf (graph : MarkedGraph) (edges : List ℕ) (formula : AccTree)
    (state : ℕ) : Type 0 where
  pub edge : ℕ
  pub has : Contains edges edge
  pub leaves : (graph edge).from ≡ state
  pub accepting : HasAccepting graph (listed edges) formula

-- edges of a set lead from a state to an accepting closed walk
pub record LeadsToLoop (graph : MarkedGraph) (edges : EdgeSet) (formula : AccTree)
    (from : ℕ) : Type 0 where
  pub loop_state : ℕ
  pub walk : List ℕ
  pub leads : IsEdgeWalk graph edges from walk loop_state
  pub loops : LoopsAt graph edges formula loop_state

-- edges of a set lead from a state to one of some states
abbrev pub LeadsToOne : MarkedGraph → EdgeSet → ℕ → List ℕ → Type 0
LeadsToOne graph edges from goals =
    (goal : ℕ) × Contains goals goal × ((walk : List ℕ) × IsEdgeWalk graph edges from walk goal)

-- edges of a list lead from each of some states to an accepting closed walk, and to one of them from where such a walk
-- begins
pub record AreGoals (graph : MarkedGraph) (edges : List ℕ) (formula : AccTree)
    (goals : List ℕ) : Type 0 where
  pub sound : (goal : ℕ) → Contains goals goal → LeadsToLoop graph (listed edges) formula goal
  pub complete : (state : ℕ) → LoopsAt graph (listed edges) formula state
      → LeadsToOne graph (listed edges) state goals

-- these are such states of the graph of an automaton
pub record HasGoals (a : Description) (edges goals : List ℕ) : Type 0 where
  pub are : AreGoals (graph_of a) edges a.acceptance goals
  pub states : AreStates (shape_of a) goals

-- the flags tell from which states edges of a list lead to such goals
pub record TellLive (a : Description) (edges : List ℕ) (flags : List Bool) : Type 0 where
  pub goals : List ℕ
  pub are : AreGoals (graph_of a) edges a.acceptance goals
  pub tell : TellReached (reversed (shape_of a)) edges goals flags

-- the flag at a place
abbrev pub flag_at : List Bool → ℕ → Bool
flag_at flags place = slice_index_or flags place false

-- a state is defined, and it has both flags
pub record HasBoth (a : Description) (reached live : List Bool) (state : ℕ) : Type 0 where
  pub defined : Contains (defined_numbers a) state
  pub is_reached : IsTrue (flag_at reached (place_of a state))
  pub is_live : IsTrue (flag_at live (place_of a state))

-- the numbers of the states with both flags, in ascending order
pub record HaveBoth (a : Description) (reached live : List Bool) (numbers : List ℕ) : Type 0 where
  pub rising : IsStrictlyIncreasing numbers
  pub flags : (state : ℕ) → Contains numbers state ↔ HasBoth a reached live state
