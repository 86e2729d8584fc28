-- The parity game of a game in rounds. Its nodes are those of the states, of the edges, a sink that player 0 loses, and
-- those of the questions; the place of each is its identifier.
use Rattle.std.specs.Prelude.{ℕ, ◌+◌, ◌-◌, ◌<◌, ◌≤◌, ◌==◌, if◌then◌else◌, nat_lt, List, [], ◌∷◌, length, map}
use Rattle.std.specs.List.{range_with_len}
use Rattle.omega_text.specs.Cases.{never, or_game, or_memory}
use Rattle.omega_text.specs.declared.refusal.Refusal.{Refusal}
use Rattle.omega_text.specs.declared.refusal.game.GameFault.{GameFault}
use Rattle.omega_text.specs.declared.refusal.game.GameFault.TheVariants.{DuplicateNode, HeaderTooSmall}
use Rattle.omega_text.specs.declared.refusal.game.GameFault.TheVariants.{TooManyEdges, TooManyNodes}
use Rattle.omega_text.specs.declared.refusal.game.GameFault.TheVariants.{UndefinedSuccessor}
use Rattle.omega_game_values.specs.Building.{IsGameOf, listed_successors, unnamed_spec}
use Rattle.omega_game_values.specs.Game.{Node}
use Rattle.omega_game_values.specs.Limits.{most_nodes, most_successors}
use Rattle.omega_game_values.specs.declared.node_spec.NodeSpec.{NodeSpec}
use Rattle.omega_game_values.specs.declared.player.Player.TheVariants.{One, Zero}
use Rattle.omega_synth_rounds.specs.Rounds.{answers_of, edge_at, questions_of}
use Rattle.omega_synth_rounds.specs.declared.rounds.Rounds.{Rounds}

-- the place of an edge: after the states
abbrev pub edge_place : Rounds → ℕ → ℕ
edge_place rounds number = length rounds.states + number

-- the place of the sink: after the edges
abbrev pub sink_place : Rounds → ℕ
sink_place rounds = length rounds.states + length rounds.edges

-- the place of a question: after the sink
abbrev pub question_place : Rounds → ℕ → ℕ
question_place rounds question = sink_place rounds + 1 + question

-- the number of nodes
abbrev pub node_count : Rounds → ℕ
node_count rounds = sink_place rounds + 1 + length rounds.questions

-- the list, or the sink alone if the list is empty
abbrev pub or_sink : ℕ → List ℕ → List ℕ
or_sink sink [] = sink ∷ []
or_sink sink (first ∷ rest) = first ∷ rest

-- the node of a state: player 1 chooses one of its questions
abbrev pub state_node : Rounds → ℕ → NodeSpec
state_node rounds state =
    unnamed_spec state 0 One (map (question_place rounds) (questions_of rounds state))

-- the node of an edge: it has the edge's priority and leads to its target
abbrev pub edge_node : Rounds → ℕ → NodeSpec
edge_node rounds number =
    unnamed_spec (edge_place rounds number) (edge_at rounds number).priority Zero
    ((edge_at rounds number).target ∷ [])

-- the sink: priority 1; it leads to itself alone
abbrev pub sink_node : Rounds → NodeSpec
sink_node rounds = unnamed_spec (sink_place rounds) 1 Zero (sink_place rounds ∷ [])

-- the node of a question: player 0 chooses one of its answers, and loses if there is none
abbrev pub question_node : Rounds → ℕ → NodeSpec
question_node rounds question =
    unnamed_spec (question_place rounds question) 0 Zero
    (or_sink (sink_place rounds) (map (edge_place rounds) (answers_of rounds question)))

-- how many successors the node of a question with these answers has: its answers, or the sink alone
abbrev pub answer_count : List ℕ → ℕ
answer_count [] = 1
answer_count (first ∷ rest) = length (first ∷ rest)

-- the node at a place
abbrev pub node_for : Rounds → ℕ → NodeSpec
node_for rounds place =
    if nat_lt place (length rounds.states) then state_node rounds place else
    if nat_lt place (sink_place rounds) then edge_node rounds (place - length rounds.states) else
    if place == sink_place rounds then sink_node rounds else
    question_node rounds (place - (sink_place rounds + 1))

-- all nodes in rising order of places
abbrev pub table : Rounds → List NodeSpec
table rounds = map (node_for rounds) (range_with_len 0 (node_count rounds))

-- the game is that of the rounds
abbrev pub IsRoundsGame : Rounds → List Node → Type 0
IsRoundsGame rounds game = IsGameOf (table rounds) game

-- the game has no more nodes and lists no more successors than a game may have
pub record FitsAGame (rounds : Rounds) : Type 0 where
  pub nodes : node_count rounds ≤ most_nodes
  pub successors : listed_successors (table rounds) ≤ most_successors

-- the game has more nodes or lists more successors than a game may have
abbrev pub IsRoundsFault : Rounds → GameFault → Type 0
IsRoundsFault rounds TooManyNodes = most_nodes < node_count rounds
IsRoundsFault rounds TooManyEdges =
    (node_count rounds ≤ most_nodes) × (most_successors < listed_successors (table rounds))
IsRoundsFault rounds DuplicateNode = ⊥
IsRoundsFault rounds UndefinedSuccessor = ⊥
IsRoundsFault rounds HeaderTooSmall = ⊥

-- the refusal of the game: such a fault, or want of memory
abbrev pub IsRoundsRefusal : Rounds → Refusal → Type 0
IsRoundsRefusal rounds = or_game (IsRoundsFault rounds) (or_memory never)
