-- The place rests on each successor so far.
use Rattle.std.proofs.Common.{ℕ, ◌<◌, slice_index}
use Rattle.omega_solve.specs.private.turning.Handing.{RestsOn}
use Rattle.omega_solve.proofs.turns.keeping.rests_on_all.Given as goal

abbrev pub invariant-loop-successor : goal.invariant-loop-successor
invariant-loop-successor g l =
    (k : ℕ) → k < l.successor-index → RestsOn (g.T.MeasureTable.content l.table) l.lost l.place (slice_index l.successor-items k)
