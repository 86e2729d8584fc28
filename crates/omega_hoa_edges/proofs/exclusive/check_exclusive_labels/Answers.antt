-- All labels are apart by the table.
use Rattle.std.proofs.Common.{arith}
use Rattle.omega_hoa_edges.proofs.Judged.{all_apart, all_fit}
use Rattle.omega_hoa_edges.proofs.exclusive.check_exclusive_labels.Goals as goal

pub returns-then-apart-state-clause-apart : goal.returns-then-apart-state-clause-apart
returns-then-apart-state-clause-apart c = all_apart c.args.state.now.labels.now c.in_ok-apart.apart (omega (arith, c.if-apart-state.true)) c.in_ok-apart.ensures.apart

pub returns-then-apart-state-clause-fits : goal.returns-then-apart-state-clause-fits
returns-then-apart-state-clause-fits c = all_fit c.args.state.now.labels.now c.in_ok-apart.apart (omega (arith, c.if-apart-state.true)) c.in_ok-apart.ensures.apart
