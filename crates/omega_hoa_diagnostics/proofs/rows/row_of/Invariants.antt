-- `row_of`: the states so far have another number.
use Rattle.omega_hoa_diagnostics.proofs.Before.{IsBefore}
use Rattle.omega_hoa_diagnostics.proofs.rows.row_of.Given as goal

abbrev pub invariant-loop-state : goal.invariant-loop-state
invariant-loop-state l = IsBefore l.automaton l.number l.state-index l.before
