-- The side is kept.
use Rattle.std.proofs.Common.{arith}
use Rattle.omega_solve.proofs.turns.side.lift_until.Goals as goal

pub loop-player-init : goal.loop-player-init
loop-player-init g c = c.requires.side

pub attempt-requires-clause-side : goal.attempt-requires-clause-side
attempt-requires-clause-side g c = c.loop-player.invariant

pub loop-player-smaller : goal.loop-player-smaller
loop-player-smaller g c = omega (arith, c.attempt.ensures.taken, c.takes.ensures, c.loop-player-test.true)

pub loop-player-preserved : goal.loop-player-preserved
loop-player-preserved g c = c.attempt.ensures.side

pub returns-in-None : goal.returns-in-None
returns-in-None g c = c.loop-player.invariant

pub returns : goal.returns
returns g c = c.loop-player.invariant
