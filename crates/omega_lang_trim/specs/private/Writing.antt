-- Edges as they stay, and why a state or an edge that stays can't be written.
use Rattle.std.specs.Prelude.{ℕ, if◌then◌else◌, List, [], ◌∷◌, Contains}
use Rattle.omega_hoa_automaton.specs.declared.edge.Edge.{Edge}
use Rattle.omega_hoa_automaton.specs.declared.state.State.{State}
use Rattle.omega_lang_runs.specs.Judging.{HasLabelWith, IsLabelWith}
use Rattle.omega_lang_trim.specs.Refusing.{IsDeepLabel}
use Rattle.omega_lang_trim.specs.Trimmed.{edge_kept, edge_stays}
use Rattle.omega_lang_trim.specs.declared.keeping.Keeping.{Keeping}

-- an edge of a state as it stays
abbrev pub kept_by : Keeping → ℕ → Edge → Edge
kept_by keeping index edge =
    edge_kept keeping.kept.now.keys keeping.as_written keeping.count keeping.state.now index edge

-- the edge, if it stays
abbrev pub kept_alone : Keeping → ℕ → Edge → List Edge
kept_alone keeping index edge =
    if edge_stays keeping.kept.now.keys edge then kept_by keeping index edge ∷ [] else []

-- one of some edges has a label that is too deep
abbrev pub HaveDeepLabel : List Edge → Type 0
HaveDeepLabel edges = (edge : Edge) × Contains edges edge × IsLabelWith IsDeepLabel edge.label

-- a state or one of its edges has one
abbrev pub HasDeepLabel : State → Type 0
HasDeepLabel state = HasLabelWith IsDeepLabel state

-- one of some states or of their edges has one
abbrev pub StatesHaveDeepLabel : List State → Type 0
StatesHaveDeepLabel states = (state : State) × Contains states state × HasDeepLabel state
