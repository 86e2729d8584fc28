-- the edges so far have a label and one mark
use Rattle.std.proofs.Common.{ℕ, ◌<◌}
use Rattle.std.specs.Prelude.{slice_index_or}
use Rattle.omega_hoa_automaton.specs.declared.edge.Edge.{Edge}
use Rattle.omega_ltl_deterministic.specs.Candidate.{IsColoured}
use Rattle.omega_ltl_deterministic.proofs.judging.is_coloured_state.Given as goal

abbrev pub invariant-loop-at : goal.invariant-loop-at
invariant-loop-at l = (k : ℕ) (d : Edge) → k < l.at → IsColoured (slice_index_or l.state.edges k d)
