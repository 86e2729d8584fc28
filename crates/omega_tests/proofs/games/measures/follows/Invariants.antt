-- The table keeps its places.
use Rattle.std.proofs.Common.{◌≡◌, length}
use Rattle.omega_tests.proofs.games.measures.follows.Given as goal

abbrev pub invariant-loop-step : goal.invariant-loop-step
invariant-loop-step g l = length (g.T.MeasureTable.content l.table).measures ≡ l.places
