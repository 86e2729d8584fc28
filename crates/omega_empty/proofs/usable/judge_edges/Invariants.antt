use Rattle.std.proofs.Common.{◌≡◌, ◌++◌, ℕ, ◌<◌, List, Bool, take, get_or}
use Rattle.omega_hoa_automaton.specs.Automaton.{edges_from}
use Rattle.omega_hoa_automaton.specs.declared.edge.Edge.{Edge}
use Rattle.omega_lang_runs.specs.Judging.{AreJudged, IsNarrowLabel}
use Rattle.omega_empty.proofs.usable.judge_edges.Given as goal

abbrev pub invariant-loop-at : goal.invariant-loop-at
invariant-loop-at l =
    ((own : List Bool) × (l.usable.items ≡ l.initial.usable.items ++ own) × AreJudged (take l.at (edges_from l.state)) own)
    × ((k : ℕ) → k < l.at → (d : Edge) → IsNarrowLabel (get_or l.state.edges k d).label)
