-- The places so far have their flags and choices.
use Rattle.std.proofs.Common.{◌≡◌, ℕ, ◌<◌, take, slice_get, Some, Option}
use Rattle.omega_lift_laws.specs.Answer.{won_in}
use Rattle.omega_solve.specs.private.solving.Successor.{IsChoiceAt}
use Rattle.omega_solve.proofs.answer.fill_answer.Given as goal

abbrev pub invariant-loop-place : goal.invariant-loop-place
invariant-loop-place g l = record {
  won : take l.place l.won ≡ take l.place (won_in (g.T.MeasureTable.content l.table).measures);
  choice : (v : ℕ) → v < l.place → (c : Option ℕ) × (slice_get l.choice v ≡ Some c) × IsChoiceAt l.game l.player (g.T.MeasureTable.content l.table).measures v c;
}
