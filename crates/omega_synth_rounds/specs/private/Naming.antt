-- Names of nodes, where a question is named for a state that is listed for it.
use Rattle.std.specs.Prelude.{◌≡◌, ℕ, ◌+◌, ◌-◌, ◌<◌, ◌==◌, if◌then◌else◌}
use Rattle.std.specs.Prelude.{nat_lt, List, codes, length, slice_index_or}
use Rattle.omega_game_values.specs.Building.{with_name}
use Rattle.omega_game_values.specs.declared.node_spec.NodeSpec.{NodeSpec}
use Rattle.omega_synth_rounds.specs.Naming.{class_name, edge_name, state_name}
use Rattle.omega_synth_rounds.specs.Rounds.{IsAskedIn, range_at}
use Rattle.omega_synth_rounds.specs.RoundsGame.{node_for, sink_place}
use Rattle.omega_synth_rounds.specs.declared.rounds.Rounds.{Rounds}

-- the state that is listed for a question
abbrev pub state_of : List ℕ → ℕ → ℕ
state_of states question = slice_index_or states question 0

-- each question is asked in the state that is listed for it
pub record AreStatesOf (rounds : Rounds) (states : List ℕ) : Type 0 where
  pub entries : length states ≡ length rounds.questions
  pub each : (question : ℕ) → question < length rounds.questions
      → IsAskedIn rounds (state_of states question) question

-- so it is if it is asked in one of the first states
pub record AreStatesBelow (rounds : Rounds) (states : List ℕ) (count : ℕ) : Type 0 where
  pub entries : length states ≡ length rounds.questions
  pub each : (state question : ℕ) → state < count → IsAskedIn rounds state question
      → IsAskedIn rounds (state_of states question) question

-- the name of a question
abbrev pub question_name : Rounds → List ℕ → ℕ → List ℕ
question_name rounds states question = class_name (state_of states question)
    (question - (range_at rounds (state_of states question)).first)

-- the name of the node at a place
abbrev pub node_name : Rounds → List ℕ → ℕ → List ℕ
node_name rounds states place =
    if nat_lt place (length rounds.states) then state_name place else
    if nat_lt place (sink_place rounds) then edge_name (place - length rounds.states) else
    if place == sink_place rounds then codes "sink" else
    question_name rounds states (place - (sink_place rounds + 1))

-- the node at a place, with its name
abbrev pub named_node : Rounds → List ℕ → ℕ → NodeSpec
named_node rounds states place = with_name (node_name rounds states place) (node_for rounds place)
