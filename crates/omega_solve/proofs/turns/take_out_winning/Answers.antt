-- No lift is due at first at a place whose priority does not lose.
use Rattle.std.proofs.Common.{◌∙◌, ap, arith, subst, sym}
use Rattle.omega_lift_laws.specs.Run.{IsDue}
use Rattle.omega_measure.specs.Table.{Content}
use Rattle.omega_game_values.specs.Player.{loses}
use Rattle.omega_solve.proofs.turning.Starting.{zero_settled}
use Rattle.omega_solve.proofs.turns.take_out_winning.Goals as goal
use Rattle.omega_solve.proofs.turns.take_out_winning.Goals.{then-not-loses, else-not-loses}

pub loop-place-init : goal.loop-place-init
loop-place-init g c = record { side = c.requires.side; zero = c.requires.zero }

pub take_out-requires-clause-side : goal.take_out-requires-clause-side
take_out-requires-clause-side g c = c.loop-place.invariant.side

pub take_out-requires-clause-settled : goal.take_out-requires-clause-settled
take_out-requires-clause-settled g c =
    subst (λ (content : Content). ¬ IsDue c.args.game.now c.args.player content.measures c.loop-place.place) (sym c.loop-place.invariant.zero)
    (zero_settled c.args.game.now c.args.player c.loop-place.place c.requires.game
    (ap (loses c.args.player) (sym c.priority.ensures) ∙ sym c.if-not-loses.ensures))

pub take_out-requires-clause-inside : goal.take_out-requires-clause-inside
take_out-requires-clause-inside g c = omega (arith, c.loop-place-test.true, c.len-place-end.ensures.count)

pub loop-place-preserved : goal.loop-place-preserved
loop-place-preserved g c = elim c.if-not-loses.branch [
  | then-not-loses w ↦ rw w.side-is (record { side = w.take_out.ensures.side; zero = w.take_out.ensures.table ∙ c.loop-place.invariant.zero })
  | else-not-loses w ↦ rw w.side-is c.loop-place.invariant
]

pub returns : goal.returns
returns g c = c.loop-place.invariant.side
