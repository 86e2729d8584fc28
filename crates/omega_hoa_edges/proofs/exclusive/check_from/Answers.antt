-- one label more, and all
use Rattle.std.proofs.Common.{arith}
use Rattle.omega_hoa_edges.proofs.Judged.{all_apart, all_fit, apart_more}
use Rattle.omega_hoa_edges.proofs.exclusive.check_from.Goals as goal

pub loop-second-preserved : goal.loop-second-preserved
loop-second-preserved c = apart_more c.args.state.now.labels.now c.loop-second.second c.loop-second.invariant c.in_ok-check_before.ensures.apart

pub returns-clause-apart : goal.returns-clause-apart
returns-clause-apart c = all_apart c.args.state.now.labels.now c.loop-second.second (omega (arith, c.loop-second-test.false)) c.loop-second.invariant

pub returns-clause-fits : goal.returns-clause-fits
returns-clause-fits c = all_fit c.args.state.now.labels.now c.loop-second.second (omega (arith, c.loop-second-test.false)) c.loop-second.invariant
