-- The edges of the states of an automaton, in a table that makes those of a state when they are needed.
use Rattle.std.specs.Prelude.{◌≡◌, ℕ, ◌+◌, List, [], ◌∷◌, length, map, sum_by}
use Rattle.std.specs.Prelude.{get_or, nat_eq, position, Option, None, IfSome}
use Rattle.std.specs.Option.{IsSome}
use Rattle.omega_hoa_label.specs.Label.{LabelTree}
use Rattle.omega_hoa_automaton.specs.declared.edge.Edge.{Edge}
use Rattle.omega_hoa_automaton.specs.declared.state.State.{State}
use Rattle.omega_hoa_edges.specs.Labels.{label_at}
use Rattle.omega_hoa_label.specs.Renumbering.{relabelled}
use Rattle.omega_lang_product.specs.JointEdges.{numbered_from}
use Rattle.omega_lang_product.specs.PairGraph.{numbered_at}
use Rattle.omega_lang_product.specs.PlainEdges.{View, plain_edges_at, plain_edges_from}
use Rattle.omega_lang_product.specs.declared.renumbering.Renumbering.{Renumbering}
use Rattle.omega_lang_product.specs.declared.row.Row.{Row}
use Rattle.omega_lang_product.specs.declared.table.Table.{Table}
use Rattle.omega_lang_product.specs.declared.plain_edge.PlainEdge.{PlainEdge}

-- how a product sees an automaton whose propositions have these places
abbrev pub view_at : List ℕ → ℕ → View
view_at places before = record { count = length places; places = places; before = before }

-- how a product sees an automaton whose numbers change so
abbrev pub view_of : Renumbering → View
view_of renumbering = view_at renumbering.places.now renumbering.before

-- how a product sees the automaton of a table
abbrev pub view_in : Table → View
view_in table = view_at table.places.items table.before

-- the label, over the joined propositions, of the edge of a state with an index
abbrev pub label_in_product : List ℕ → State → ℕ → Edge → LabelTree
label_in_product places state index edge =
    relabelled places (label_at (length places) state index edge)

-- the edges of a state
abbrev pub row_of : View → State → List PlainEdge
row_of view state = plain_edges_from view state 0 state.edges

-- how many edges states have
abbrev pub edges_in : List State → ℕ
edges_in states = sum_by (λ state. length state.edges) states

-- the numbers of the first edges of states, after `count` edges of others
abbrev pub firsts_from : ℕ → List State → List ℕ
firsts_from count [] = []
firsts_from count (state ∷ states) = count ∷ firsts_from (count + length state.edges) states

-- the numbers of states, and those of their first edges, state by state
pub record AreNumbered (states : List State) (numbers firsts : List ℕ) : Type 0 where
  pub numbers_are : numbers ≡ map (λ state. state.number) states
  pub firsts_are : firsts ≡ firsts_from 0 states

-- for each state, its edges or nothing
pub record AreRows (view : View) (states : List State)
    (rows : List (Option (List PlainEdge))) : Type 0 where
  pub long : length rows ≡ length states
  pub each : (place : ℕ)
      → IfSome (get_or rows place None) (λ row. row ≡ get_or (map (row_of view) states) place [])

-- a table is of these states: it has their numbers, and edges of some of them
pub record IsTableOf (view : View) (states : List State) (table : Table) : Type 0 where
  pub seen : view_in table ≡ view
  pub numbered : AreNumbered states table.numbers.keys table.firsts.items
  pub rows : AreRows view states table.rows.items

-- a table has the edges of the state with a number, if it has that number
abbrev pub HasRow : Table → ℕ → Type 0
HasRow table number = IfSome (position (nat_eq number) table.numbers.keys)
    (λ place. IsSome (get_or table.rows.items place None))

-- a row has the edges of the first of some states with a number, and their numbers
pub record IsRowOf (view : View) (states : List State) (number : ℕ) (row : Row) : Type 0 where
  pub edges : row.edges.now ≡ plain_edges_at view states number
  pub numbered : numbered_from row.before row.edges.now ≡ numbered_at view states number

-- whatever states a table is of, this is the row of the first one with a number
abbrev pub IsRowIn : Table → ℕ → Row → Type 0
IsRowIn table number row = (view : View) (states : List State) → IsTableOf view states table
    → IsRowOf view states number row
