-- After the loop every entry was passed.
use Rattle.std.proofs.Common.{arith}
use Rattle.omega_lift_rows.proofs.rows.last_below.Goals as goal

pub returns : goal.returns
returns c = λ k low high. c.loop-at.invariant k (omega (arith, c.loop-at-test.false)) high
