-- The parts of which the text of a winner is written.
use Rattle.std.specs.Prelude.{◌≡◌, ℕ, ◌^◌, ◌<◌, Bool, false, All, List, [], ◌∷◌, Option}
use Rattle.std.specs.Prelude.{None, Some, if◌then◌else◌, length, slice_index_or}
use Rattle.omega_hoa_label.specs.Label.{LabelTree}
use Rattle.omega_hoa_automaton.specs.Automaton.{Description, edge_count}
use Rattle.omega_hoa_automaton.specs.declared.edge.Edge.{Edge}
use Rattle.omega_hoa_automaton.specs.declared.state.State.{State}
use Rattle.omega_hoa_edges.specs.Labels.{label_at}
use Rattle.omega_synth_text.specs.Winner.{demanding, kept_edge, kept_edges, kept_state}
use Rattle.omega_synth_text.specs.Winner.{kept_states, state_letter, number_of, winner, with_letter}
use Rattle.omega_synth_text.specs.declared.parts.Winner.{Winner}

-- whether the flag of a number is set
abbrev pub flag : List Bool → ℕ → Bool
flag flags number = slice_index_or flags number false

-- the flags of reached states, and of kept edges
abbrev pub reached_by : Winner → ℕ → Bool
reached_by w = flag w.reached.now

abbrev pub kept_by : Winner → ℕ → Bool
kept_by w = flag w.kept.now

-- the letter of a state, if there are letters
abbrev pub letters_for : Bool → List ℕ → List (List ℕ) → ℕ → Option LabelTree
letters_for lettered inputs letters state =
    if lettered then Some (state_letter inputs letters state) else None

-- so it is for a winner
abbrev pub letters_by : Winner → ℕ → Option LabelTree
letters_by w = letters_for w.lettered w.inputs.now w.letters.now

-- the label of an edge of a state, by its index there
abbrev pub label_by : Winner → State → ℕ → Edge → LabelTree
label_by w state index edge = demanding (letters_by w state.number)
    (label_at (length w.automaton.now.propositions) state index edge)

-- an edge of a state with an index
abbrev pub edge_by : Winner → State → ℕ → Edge → Edge
edge_by w state =
    kept_edge (length w.automaton.now.propositions) (reached_by w) (letters_by w state.number) state

-- the kept ones among edges of a state, of which the first has this index and this number
abbrev pub edges_by : Winner → State → ℕ → ℕ → List Edge → List Edge
edges_by w state = kept_edges (kept_by w) (edge_by w state)

-- the edges that are written of a state, of which the first has this number: the kept ones, or one for its letter
abbrev pub written_by : Winner → ℕ → State → List Edge
written_by w number state = with_letter (letters_by w state.number)
    (number_of (reached_by w) state.number) (edges_by w state 0 number state.edges)

-- a state with its kept edges, of which the first has this number
abbrev pub state_by : Winner → ℕ → State → State
state_by w =
    kept_state (length w.automaton.now.propositions) (kept_by w) (reached_by w) (letters_by w)

-- the reached ones among states
abbrev pub states_by : Winner → ℕ → List State → List State
states_by w = kept_states (state_by w) (reached_by w)

-- an edge leads to one state
pub record LeadsToOne (states : ℕ) (edge : Edge) : Type 0 where
  pub target : ℕ
  pub enters : edge.targets ≡ target ∷ []
  pub below : target < states

-- a state of an automaton, whose edges lead to one state each
pub record IsPlainState (states : ℕ) (state : State) : Type 0 where
  pub below : state.number < states
  pub edges : All (LeadsToOne states) state.edges

-- a start is one state
pub record IsOneStart (states : ℕ) (start : List ℕ) : Type 0 where
  pub state : ℕ
  pub alone : start ≡ state ∷ []
  pub below : state < states

-- the parts of a winner fit: no branches, and the numbers are those of the states
pub record IsReady (w : Winner) : Type 0 where
  pub states : All (IsPlainState w.automaton.now.states) w.automaton.now.defined
  pub starts : All (IsOneStart w.automaton.now.states) w.automaton.now.starts
  pub few : edge_count w.automaton.now < 2 ^ 32
  pub numbers : (state : ℕ) → state < w.automaton.now.states
      → slice_index_or w.numbers.now state 0 ≡ number_of (reached_by w) state
  pub count : w.count ≡ number_of (reached_by w) w.automaton.now.states

-- the automaton of a winner
abbrev pub automaton_by : Winner → Description
automaton_by w = record (winner w.automaton.now w.controlled.now [] (reached_by w) (letters_by w)) {
  defined = states_by w 0 w.automaton.now.defined;
}
