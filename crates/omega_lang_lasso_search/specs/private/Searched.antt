-- What a search is: some edges of a graph, and how they are those of an automaton.
use Rattle.std.specs.Prelude.{◌≡◌, ◌<◌, ℕ, Bool, false, List, All, filter, length, slice_index_or}
use Rattle.omega_hoa_automaton.specs.Automaton.{Description}
use Rattle.omega_graph.specs.Graph.{AreEdges, AreStates, Shape, ends_at, listed, marked}
use Rattle.omega_graph.specs.Reaching.{IsReachedAlong}
use Rattle.omega_graph.specs.Walks.{EdgeSet, MarkedGraph, IsAccepting}
use Rattle.omega_graph_accepting_walk.specs.Rows.{row_at}
use Rattle.omega_lang_runs.specs.Verdict.{IsVerdict}
use Rattle.omega_lang_runs.specs.declared.verdict.Verdict.{Verdict}
pub use Rattle.omega_lang_lasso_search.specs.Tabled.{AreUsableEdges}
use Rattle.omega_lang_lasso_search.specs.Tabled.{HasMarks, IsTabled, ListsOne}
use Rattle.omega_lang_lasso_search.specs.declared.search.LassoSearch.{LassoSearch}
use Rattle.omega_lang_lasso_search.specs.declared.given.Given.{Given}
use Rattle.omega_lang_lasso_search.specs.private.Numbering.{AreNumbered}

-- the marks are as many as the edges, and the numbers of edges are below their count
pub record IsGiven (given : Given) : Type 0 where
  pub marks : length given.marks.now ≡ length given.ends.now
  pub edges : All (λ number. number < length given.ends.now) given.edges.now

-- an automaton is that of a table whose edges with the numbers are the usable ones
pub record IsGivenOf (a : Description) (given : Given) : Type 0 where
  pub tabled : IsTabled given.starts.now given.ends.now given.marks.now given.formula.now a
  pub usable : AreUsableEdges a given.edges.now

-- the parts of a search fit together: the marks are as many as the edges, and numbers are below their counts
pub record IsSearch (search : LassoSearch) : Type 0 where
  pub marks : length search.marks.now ≡ length search.graph.now.edges
  pub edges : AreEdges search.graph.now search.edges.now
  pub sources : AreStates search.graph.now search.sources.now

-- a search is one in this automaton, whose starts and edges list one state each: the marks of each edge, the graph of
-- all edges, the starts as its sources, the usable edges and the formula
pub record IsSearchIn (a : Description) (search : LassoSearch) : Type 0 where
  pub single : ListsOne a
  pub marks_are : HasMarks a search.marks.now
  pub names : List ℕ
  pub numbered : AreNumbered a names search.sources.now search.graph.now
  pub usable : AreUsableEdges a search.edges.now
  pub formula_is : a.acceptance ≡ search.formula.now

-- a verdict is right of each automaton that the search is in
abbrev pub IsVerdictOf : LassoSearch → Verdict → Type 0
IsVerdictOf search verdict = (a : Description) → IsSearchIn a search → IsVerdict a verdict

-- the graph of a search, whose edges have their marks
abbrev pub graph_of : LassoSearch → MarkedGraph
graph_of search = marked search.graph.now (row_at search.marks.now)

-- the set of its usable edges
abbrev pub usable_of : LassoSearch → EdgeSet
usable_of search = listed search.edges.now

-- an accepting closed walk in the usable edges
abbrev pub IsAcceptingCycle : LassoSearch → List ℕ → Type 0
IsAcceptingCycle search cycle =
    IsAccepting (graph_of search) (usable_of search) search.formula.now cycle

-- the usable edges reach the state from a source
abbrev pub Reaches : LassoSearch → ℕ → Type 0
Reaches search state = IsReachedAlong (graph_of search) (usable_of search) search.sources.now state

-- the state that the first edge of a cycle leaves
abbrev pub beginning : LassoSearch → List ℕ → ℕ
beginning search cycle = (ends_at search.graph.now (slice_index_or cycle 0 0)).from

-- the edges of a list that leave a state with a flag
abbrev pub edges_leaving : List Bool → Shape → List ℕ → List ℕ
edges_leaving states graph edges =
    filter (λ number. slice_index_or states (ends_at graph number).from false) edges
