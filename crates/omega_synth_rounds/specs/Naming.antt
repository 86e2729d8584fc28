-- The parity game of a game in rounds with names for its nodes.
use Rattle.std.specs.Prelude.{ℕ, ◌-◌, ◌<◌, List, ◌++◌, codes, decimal, length, map}
use Rattle.std.specs.List.{range_with_len}
use Rattle.omega_game_values.specs.Building.{IsGameOf, with_name}
use Rattle.omega_game_values.specs.Game.{Node}
use Rattle.omega_game_values.specs.declared.node_spec.NodeSpec.{NodeSpec}
use Rattle.omega_synth_rounds.specs.Rounds.{IsAskedIn, range_at}
use Rattle.omega_synth_rounds.specs.RoundsGame.{edge_place, node_count, node_for, question_place, sink_place}
use Rattle.omega_synth_rounds.specs.declared.rounds.Rounds.{Rounds}

-- the name of a state
abbrev pub state_name : ℕ → List ℕ
state_name state = codes "state " ++ decimal state

-- the name of an edge
abbrev pub edge_name : ℕ → List ℕ
edge_name number = codes "edge " ++ decimal number

-- the name of a question, a class of letters, by its index among those of a state
abbrev pub class_name : ℕ → ℕ → List ℕ
class_name state index = state_name state ++ (codes " class " ++ decimal index)

-- the name of the node at a place
pub data IsNodeName (rounds : Rounds) : ℕ → List ℕ → Type 0 where
  state_named : (state : ℕ) → state < length rounds.states
      → IsNodeName rounds state (state_name state)
  edge_named : (number : ℕ) → number < length rounds.edges
      → IsNodeName rounds (edge_place rounds number) (edge_name number)
  sink_named : IsNodeName rounds (sink_place rounds) (codes "sink")
  question_named : (state question : ℕ) → IsAskedIn rounds state question → IsNodeName rounds
      (question_place rounds question) (class_name state (question - (range_at rounds state).first))

-- all nodes in rising order of places, with names
abbrev pub named_table : (ℕ → List ℕ) → Rounds → List NodeSpec
named_table names rounds = map (λ place. with_name (names place) (node_for rounds place))
    (range_with_len 0 (node_count rounds))

-- the game is that of the rounds, each node with its name
pub record IsNamedGame (rounds : Rounds) (game : List Node) : Type 0 where
  pub names : ℕ → List ℕ
  pub named : (place : ℕ) → place < node_count rounds → IsNodeName rounds place (names place)
  pub game_is : IsGameOf (named_table names rounds) game
