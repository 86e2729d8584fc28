-- Each kept place so far is below top and rests on kept ones.
use Rattle.std.proofs.Common.{ℕ, ◌<◌, IsSome}
use Rattle.omega_lift_laws.specs.Allowance.{measure_at}
use Rattle.omega_solve.specs.private.turning.Handing.{IsKept, Rests}
use Rattle.omega_solve.proofs.turns.keeping.stand_alone.Given as goal

abbrev pub invariant-loop-place : goal.invariant-loop-place
invariant-loop-place g l = record {
  below_top : (v : ℕ) → v < l.place → IsKept l.lost v → IsSome (measure_at (g.T.MeasureTable.content l.table).measures v);
  rests : (v : ℕ) → v < l.place → IsKept l.lost v → Rests l.game l.player (g.T.MeasureTable.content l.table) l.lost v;
}
