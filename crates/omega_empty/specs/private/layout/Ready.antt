-- What holds of an automaton once it is judged, before the nodes of its game are made.
use Rattle.std.specs.Prelude.{◌≡◌, ◌+◌, ◌*◌, ◌<◌, ◌≤◌, Bool, false, List, All, length, slice_index}
use Rattle.omega_hoa_acceptance.specs.declared.kind.AccKind.{AccKind}
use Rattle.omega_hoa_automaton.specs.Automaton.{Description, IsAutomaton}
use Rattle.omega_hoa_automaton.specs.declared.edge.Edge.{Edge}
use Rattle.omega_hoa_automaton.specs.declared.state.State.{State}
use Rattle.omega_game_values.specs.Limits.{most_nodes}
use Rattle.omega_empty.specs.Counters.{counters}
use Rattle.omega_hoa_automaton.specs.AcceptanceKind.{HasKind}
use Rattle.omega_hoa_automaton.specs.Branching.{has_universal_branching}
use Rattle.omega_lang_runs.specs.Judging.{AreUsable}
use Rattle.omega_empty.specs.EmptinessGame.{span}
use Rattle.omega_empty.specs.declared.edge_ranges.EdgeRange.{EdgeRange}
use Rattle.omega_empty.specs.private.layout.Marks.{AreMarksBelow, IsSmall}
use Rattle.omega_empty.specs.private.layout.Ranges.{AreRanges}

-- an automaton that was judged: its kind, its usable edges by number and the ranges of its edges by state
pub record JudgedAutomaton : Type 0 where
  pub automaton : Description
  pub kind : AccKind
  pub usable : List Bool
  pub ranges : List EdgeRange

-- an automaton, its kind, its usable edges and its ranges, as they were judged
abbrev pub judged_automaton : Description → AccKind → List Bool → List EdgeRange → JudgedAutomaton
judged_automaton a kind usable ranges = record {
  automaton = a;
  kind = kind;
  usable = usable;
  ranges = ranges;
}

-- the automaton has the kind and no universal branching, its game fits, and these are its usable edges and the ranges
-- of its states
pub record IsReady (judged : JudgedAutomaton) : Type 0 where
  pub automaton : IsAutomaton judged.automaton
  pub kind_is : HasKind judged.automaton judged.kind
  pub small : IsSmall judged.kind
  pub fits : counters judged.kind * span judged.automaton + 1 ≤ most_nodes
  pub few : span judged.automaton + 1 ≤ most_nodes
  pub plain : has_universal_branching judged.automaton ≡ false
  pub usable_are : AreUsable judged.automaton judged.usable
  pub ranges_are : AreRanges judged.automaton judged.ranges

-- the edge leads to one state of the automaton, and the kind has priorities for its marks
pub record IsPlainEdge (a : Description) (kind : AccKind) (edge : Edge) : Type 0 where
  pub one : length edge.targets ≡ 1
  pub below : slice_index edge.targets 0 < a.states
  pub marks : AreMarksBelow kind edge.marks

-- the kind has priorities for the state's marks, and each of its edges is such
pub record IsPlainState (a : Description) (kind : AccKind) (state : State) : Type 0 where
  pub marks : AreMarksBelow kind state.marks
  pub edges : All (IsPlainEdge a kind) state.edges
