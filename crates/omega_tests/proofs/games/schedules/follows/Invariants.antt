-- The schedule keeps its places.
use Rattle.std.proofs.Common.{◌≡◌, length}
use Rattle.omega_tests.proofs.games.schedules.follows.Given as goal

abbrev pub invariant-loop-step : goal.invariant-loop-step
invariant-loop-step g l = length (g.S.Schedule.waiting l.schedule).flags ≡ l.places
