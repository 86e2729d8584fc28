-- `first_fault_behind`: the first line at fault decides.
use Rattle.omega_pg_diagnostics.proofs.solutions.Faults.{fault_there}
use Rattle.omega_pg_diagnostics.proofs.solution_causes.first_fault_behind.Goals as goal

pub returns-in-Some-clause-first : goal.returns-in-Some-clause-first
returns-in-Some-clause-first c =
    fault_there c.args.game.now c.args.lines.now c.loop-place.place _ _ c.in-Some.fault.items _ c.loop-place-test.true
    (rw c.in-Some.is at c.in_ok-fault.ensures.fault) c.loop-place.invariant
