-- The lifts of the run so far, which the budget and the pending places bring to an end.
use Rattle.std.proofs.Common.{◌≡◌, ◌+◌, ◌-◌, ◌*◌, ◌≤◌, length, false}
use Rattle.omega_lift_schedules.specs.Schedule.{waits}
use Rattle.omega_solve.specs.Solver.{LiftsWithin}
use Rattle.omega_solve.proofs.solver.Solver.run.Given as goal

abbrev pub invariant-loop-place : goal.invariant-loop-place
invariant-loop-place g l = record {
  same_nodes : l.self.nodes ≡ l.initial.self.nodes;
  same_player : l.self.player ≡ l.initial.self.player;
  lifted : LiftsWithin l.initial.self l.made l.self;
  counted : l.self.lifts ≡ l.initial.self.lifts + l.made;
  within : l.made ≤ l.budget;
  goes_on : l.self.done ≡ false;
}

abbrev pub decreases-loop-place : goal.decreases-loop-place
decreases-loop-place g l = (l.budget - l.made) * (length l.self.nodes + 1) + waits l.self.pending
