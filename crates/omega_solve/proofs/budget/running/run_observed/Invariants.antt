-- The whole slices so far: each left a lift due and was reported.
use Rattle.std.proofs.Common.{◌≡◌, ◌<◌, ◌≤◌, ◌-◌, ◌*◌, ℕ}
use Rattle.omega_solve.specs.Solver.{HasLiftDue}
use Rattle.omega_solve.specs.budget.Observing.{ReportsEach}
use Rattle.omega_solve.proofs.budget.running.run_observed.Given as goal

abbrev pub invariant-loop-made : goal.invariant-loop-made
invariant-loop-made g l = record {
  same_nodes : l.solver.nodes ≡ l.initial.solver.nodes;
  same_player : l.solver.player ≡ l.initial.solver.player;
  counted : l.solver.lifts ≡ l.made;
  within : l.made ≤ l.budget;
  reported :
      (times : ℕ) × (l.made ≡ times * l.every) × (0 < times → HasLiftDue l.solver)
      × ReportsEach (g.W.Reporter.tells l.reporter) l.player l.every l.most times l.initial.observer l.observer;
}

abbrev pub decreases-loop-made : goal.decreases-loop-made
decreases-loop-made g l = l.budget - l.made
