use Rattle.std.proofs.Common.{◌<◌, ℕ}
use Rattle.omega_ltl_shapes.specs.Graphs.{IsSetOf}
use Rattle.omega_ltl_terms.proofs.meeting.set_of.Given as goal

-- none of the sets so far is that of the demand
abbrev pub invariant-loop-set : goal.invariant-loop-set
invariant-loop-set l = (set : ℕ) → set < l.set → IsSetOf l.strongs set l.d → ⊥
