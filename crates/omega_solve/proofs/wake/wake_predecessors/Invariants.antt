-- The predecessors so far are woken.
use Rattle.omega_solve.specs.private.solving.Wake.{Wakes}
use Rattle.omega_solve.proofs.wake.wake_predecessors.Given as goal

abbrev pub invariant-loop-predecessor : goal.invariant-loop-predecessor
invariant-loop-predecessor g l =
    Wakes (g.T.MeasureTable.content l.table).measures l.predecessor-items l.predecessor-index
    (g.S.Schedule.waiting l.initial.schedule) (g.S.Schedule.waiting l.schedule)
