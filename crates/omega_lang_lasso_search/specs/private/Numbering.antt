-- The graph of an automaton, whose states keep their numbers or get new ones. The names of a graph are the states that
-- its numbers represent, in order.
use Rattle.std.specs.Prelude.{◌≡◌, ℕ, ◌<◌, ◌≤◌, List, ◌++◌, length, map, All, slice_index_or}
use Rattle.omega_hoa_automaton.specs.Automaton.{Description, edges_of}
use Rattle.omega_graph.specs.Graph.{Shape}
use Rattle.omega_graph.specs.declared.edge.Edge.{Edge}
pub use Rattle.omega_lang_lasso_search.specs.Tabled.{ends_of, first_of}
use Rattle.omega_lang_lasso_search.specs.declared.numbering.Numbered.{Numbered}

-- the state that a number represents; 0 if the number has no name
abbrev pub name_in : List ℕ → ℕ → ℕ
name_in names number = slice_index_or names number 0

-- the ends of an edge of the graph, as the states that they represent
abbrev pub ends_in : List ℕ → Edge → Edge
ends_in names edge = record { from = name_in names edge.from; to = name_in names edge.to }

-- both ends of an edge have names
abbrev pub IsNamed : List ℕ → Edge → Type 0
IsNamed names edge = (edge.from < length names) × (edge.to < length names)

-- `after` is `before` and at most `count` more names
pub record Grows (count : ℕ) (before after : List ℕ) : Type 0 where
  pub more : List ℕ
  pub is : after ≡ before ++ more
  pub few : length more ≤ count

-- different numbers have different names
abbrev pub AreDistinctNames : List ℕ → Type 0
AreDistinctNames names =
    (p q : ℕ) → p < length names → q < length names → name_in names p ≡ name_in names q → p ≡ q

-- the graph has edges with these ends, and the sources are these states
pub record AreNamed (starts : List ℕ) (edges : List Edge) (names sources : List ℕ)
    (graph : Shape) : Type 0 where
  pub apart : AreDistinctNames names
  pub inside : All (IsNamed names) graph.edges
  pub ends : map (ends_in names) graph.edges ≡ edges
  pub within : All (λ source. source < length names) sources
  pub states : All (λ source. source < graph.states) sources
  pub starts_are : map (name_in names) sources ≡ starts

-- the graph has the edges of the automaton, and the sources are its starts
abbrev pub AreNumbered : Description → List ℕ → List ℕ → Shape → Type 0
AreNumbered a names sources graph =
    AreNamed (map first_of a.starts) (map ends_of (edges_of a)) names sources graph

-- under some names the numbered graph has edges with these ends, and its sources are these states
abbrev pub Represents : List ℕ → List Edge → Numbered → Type 0
Represents starts edges numbered =
    (names : List ℕ) × AreNamed starts edges names numbered.sources.items numbered.graph
