-- The emptiness game of an automaton, which player 0 owns, and wins exactly if the automaton has an accepting lasso
-- (docs/formats.md, emptiness game).
use Rattle.std.specs.Prelude.{◌≡◌, ℕ, ◌+◌, ◌*◌, ◌==◌, ◌&&◌, Bool, false, if◌then◌else◌}
use Rattle.std.specs.Prelude.{List, [], ◌∷◌, ◌++◌, map, None, slice_index_or}
use Rattle.std.specs.List.{flat_map, range_with_len}
use Rattle.omega_hoa_acceptance.specs.declared.kind.AccKind.{AccKind}
use Rattle.omega_hoa_automaton.specs.AcceptanceKind.{HasKind}
use Rattle.omega_hoa_automaton.specs.Automaton.{BodyEdge, Description, edge_count, edges_of}
use Rattle.omega_hoa_automaton.specs.Branching.{has_universal_branching}
use Rattle.omega_game_values.specs.Building.{IsGameOf}
use Rattle.omega_game_values.specs.Game.{Node}
use Rattle.omega_game_values.specs.declared.node_spec.NodeSpec.{NodeSpec}
use Rattle.omega_game_values.specs.declared.player.Player.TheVariants.{Zero}
use Rattle.omega_empty.specs.Counters.{counter_after, counters, priority_at_counter}
use Rattle.omega_lang_runs.specs.Judging.{AreUsable}
use Rattle.omega_lang_runs.specs.Lasso.{marks_of}

-- the number of identifiers of a counter: one for each state, and then one for each edge
abbrev pub span : Description → ℕ
span a = a.states + edge_count a

-- the identifier of a state at a counter
abbrev pub state_id : Description → ℕ → ℕ → ℕ
state_id a counter state = counter * span a + state

-- the identifier of an edge at a counter
abbrev pub edge_id : Description → ℕ → ℕ → ℕ
edge_id a counter number = counter * span a + a.states + number

-- the identifier of the sink, after those of all counters
abbrev pub sink_id : AccKind → Description → ℕ
sink_id kind a = counters kind * span a

-- whether the edge of the number is usable
abbrev pub is_usable : List Bool → ℕ → Bool
is_usable usable number = slice_index_or usable number false

-- the numbers of the usable ones among edges that leave a state; the edges are numbered from a number on
abbrev pub leaving : List Bool → ℕ → ℕ → List BodyEdge → List ℕ
leaving usable state number [] = []
leaving usable state number (edge ∷ edges) =
    if (edge.source.number == state) && is_usable usable number then number
    ∷ leaving usable state (number + 1) edges else leaving usable state (number + 1) edges

-- the list, or the sink alone if the list is empty
abbrev pub or_sink : ℕ → List ℕ → List ℕ
or_sink sink [] = sink ∷ []
or_sink sink (first ∷ rest) = first ∷ rest

-- a node of player 0 without a name
abbrev pub plain_node : ℕ → ℕ → List ℕ → NodeSpec
plain_node id priority successors =
    record { id = id; priority = priority; owner = Zero; successors = successors; name = None }

-- the node of a state at a counter: priority 0; it leads to its usable edges, or to the sink
abbrev pub state_node : AccKind → Description → List Bool → ℕ → ℕ → NodeSpec
state_node kind a usable counter state =
    plain_node (state_id a counter state) 0
    (or_sink (sink_id kind a) (map (edge_id a counter) (leaving usable state 0 (edges_of a))))

-- the node of an edge at a counter: it leads to its target at the counter that its marks bring
abbrev pub edge_node : AccKind → Description → ℕ → ℕ → BodyEdge → NodeSpec
edge_node kind a counter number edge =
    plain_node (edge_id a counter number) (priority_at_counter kind counter (marks_of edge))
    (map (state_id a (counter_after kind counter (marks_of edge))) edge.edge.targets)

-- the nodes of the usable ones among edges that are numbered from a number on
abbrev pub edge_nodes : AccKind → Description → List Bool → ℕ → ℕ → List BodyEdge → List NodeSpec
edge_nodes kind a usable counter number [] = []
edge_nodes kind a usable counter number (edge ∷ edges) =
    if is_usable usable number
    then edge_node kind a counter number edge ∷ edge_nodes kind a usable counter (number + 1) edges
    else edge_nodes kind a usable counter (number + 1) edges

-- the nodes of a counter: those of the states, and then those of the usable edges
abbrev pub nodes_at : AccKind → Description → List Bool → ℕ → List NodeSpec
nodes_at kind a usable counter =
    map (state_node kind a usable counter) (range_with_len 0 a.states)
    ++ edge_nodes kind a usable counter 0 (edges_of a)

-- the sink: priority 1; it leads to itself alone
abbrev pub sink_node : AccKind → Description → NodeSpec
sink_node kind a = plain_node (sink_id kind a) 1 (sink_id kind a ∷ [])

-- all nodes in rising order of identifiers: those of the counters, and the sink
abbrev pub table : AccKind → Description → List Bool → List NodeSpec
table kind a usable =
    flat_map (nodes_at kind a usable) (range_with_len 0 (counters kind)) ++ sink_node kind a ∷ []

-- the game is the emptiness game of an automaton without universal branching, for its kind and with its usable edges
pub record IsEmptinessGame (a : Description) (game : List Node) : Type 0 where
  pub kind : AccKind
  pub kind_is : HasKind a kind
  pub plain : has_universal_branching a ≡ false
  pub usable : List Bool
  pub usable_are : AreUsable a usable
  pub game_is : IsGameOf (table kind a usable) game
