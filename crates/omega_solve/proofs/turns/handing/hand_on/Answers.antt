-- Each place given up is one that the opponent wins.
use Rattle.std.proofs.Common.{◌<◌, ◌∙◌, inl, inr, Some, false, length, ap, arith}
use Rattle.std.proofs.lemmas.Option.{slice_get-get_or}
use Rattle.omega_solve.proofs.lifting.Due.{table_entries}
use Rattle.std.proofs.lemmas.Bool.{false≢true}
use Rattle.omega_lift_laws.specs.Allowance.{measure_at}
use Rattle.omega_lift_laws.proofs.Choosing.{cases_top}
use Rattle.omega_solve.proofs.turns.handing.hand_on.Goals as goal
use Rattle.omega_solve.proofs.turns.handing.hand_on.Goals.{then-not-lost-place+then-not-is_top, else-not-lost-place}

pub loop-place-init : goal.loop-place-init
loop-place-init g c = c.requires.side

pub is_top-requires : goal.is_top-requires
is_top-requires g c =
    omega (
      arith,
      c.loop-place-test.true,
      c.len-place-end.ensures.count,
      table_entries c.args.game.now c.args.player (g.T.MeasureTable.content c.loop-place.side.table) c.loop-place.invariant.table,
    )

pub give_up-requires-clause-side : goal.give_up-requires-clause-side
give_up-requires-clause-side g c = c.loop-place.invariant

pub give_up-requires-clause-lost : goal.give_up-requires-clause-lost
give_up-requires-clause-lost g c =
    let inside : c.loop-place.place < length c.args.lost.now = omega (arith, c.loop-place-test.true, c.len-place-end.ensures.count, c.requires.entries) in
    c.requires.won c.loop-place.place (slice_get-get_or c.args.lost.now c.loop-place.place false inside ∙ ap Some c.if-not-lost-place.true)

pub loop-place-preserved : goal.loop-place-preserved
loop-place-preserved g c = elim c.if-not-lost-place.branch [
  | then-not-lost-place+then-not-is_top w ↦ rw w.side-is w.give_up.ensures
  | else-not-lost-place w ↦ rw w.side-is c.loop-place.invariant
]

pub returns : goal.returns
returns g c = c.loop-place.invariant

pub give_up-requires-clause-below_top : goal.give_up-requires-clause-below_top
give_up-requires-clause-below_top g c = elim (cases_top (measure_at (g.T.MeasureTable.content c.loop-place.side.table).measures c.loop-place.place)) [
  | inl top ↦ absurd (false≢true (c.if-not-is_top.ensures.1 top))
  | inr some ↦ some
]
