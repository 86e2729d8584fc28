use Rattle.std.proofs.Common.{ℕ, ◌<◌, take, get_or}
use Rattle.std.specs.List.{flat_map}
use Rattle.omega_hoa_automaton.specs.Automaton.{edges_from}
use Rattle.omega_hoa_automaton.specs.declared.state.State.{State}
use Rattle.omega_lang_runs.specs.Judging.{AreJudged, HasNarrow}
use Rattle.omega_empty.proofs.usable.usable_edges.Given as goal

abbrev pub invariant-loop-state : goal.invariant-loop-state
invariant-loop-state l =
    AreJudged (flat_map edges_from (take l.state-index l.automaton.defined)) l.usable.items
    × ((k : ℕ) → k < l.state-index → (d : State) → HasNarrow (get_or l.automaton.defined k d))
