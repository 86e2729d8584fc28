-- The nodes of a judged automaton's game, and the node of a state while its successors are added.
use Rattle.std.specs.Prelude.{ℕ, Bool, true, false, List, [], ◌∷◌, ◌++◌, map}
use Rattle.std.specs.List.{range_with_len}
use Rattle.omega_hoa_automaton.specs.Automaton.{BodyEdge, edges_of}
use Rattle.omega_hoa_automaton.specs.declared.edge.Edge.{Edge}
use Rattle.omega_hoa_automaton.specs.declared.state.State.{State}
use Rattle.omega_game_values.specs.Building.{with_last, with_successor}
use Rattle.omega_game_values.specs.declared.node_spec.NodeSpec.{NodeSpec}
use Rattle.omega_empty.specs.EmptinessGame.{edge_node, edge_nodes, nodes_at, plain_node, state_node, table}
use Rattle.omega_empty.specs.private.layout.Ready.{JudgedAutomaton}

-- an edge of the body: one that leaves a state
abbrev pub body_edge : State → Edge → BodyEdge
body_edge state edge = record { source = state; edge = edge }

-- the node of a state at a counter
abbrev pub state_at : JudgedAutomaton → ℕ → ℕ → NodeSpec
state_at judged counter state = state_node judged.kind judged.automaton judged.usable counter state

-- the nodes of all states at a counter
abbrev pub states_at : JudgedAutomaton → ℕ → List NodeSpec
states_at judged counter = map (state_at judged counter) (range_with_len 0 judged.automaton.states)

-- the node of an edge with a number at a counter
abbrev pub edge_at : JudgedAutomaton → ℕ → ℕ → BodyEdge → NodeSpec
edge_at judged counter number edge = edge_node judged.kind judged.automaton counter number edge

-- the nodes of the usable ones among edges at a counter, numbered from a number on
abbrev pub edges_at : JudgedAutomaton → ℕ → ℕ → List BodyEdge → List NodeSpec
edges_at judged counter number edges =
    edge_nodes judged.kind judged.automaton judged.usable counter number edges

-- the nodes of all usable edges at a counter
abbrev pub all_edges_at : JudgedAutomaton → ℕ → List NodeSpec
all_edges_at judged counter = edges_at judged counter 0 (edges_of judged.automaton)

-- the nodes of a counter
abbrev pub counter_nodes : JudgedAutomaton → ℕ → List NodeSpec
counter_nodes judged counter = nodes_at judged.kind judged.automaton judged.usable counter

-- the nodes of the game
abbrev pub game_nodes : JudgedAutomaton → List NodeSpec
game_nodes judged = table judged.kind judged.automaton judged.usable

-- the nodes after the successors so far: none before the first successor, then one node with all of them
abbrev pub begun : ℕ → List ℕ → List NodeSpec
begun id [] = []
begun id (first ∷ rest) = plain_node id 0 (first ∷ rest) ∷ []

-- a successor is added to the last node if there is one, or else to a new node
abbrev pub linked : Bool → ℕ → ℕ → List NodeSpec → List NodeSpec
linked true id successor specs = with_last (with_successor successor) specs
linked false id successor specs = specs ++ plain_node id 0 (successor ∷ []) ∷ []
