use Rattle.std.proofs.Common.{arith}
use Rattle.omega_hoa_edges.proofs.Valuations.{far_bit}
use Rattle.omega_hoa_edges.proofs.edge_labels.has_bit.Goals as goal

pub returns-else-p-lt64 : goal.returns-else-p-lt64
returns-else-p-lt64 c = far_bit c.args.index c.args.p c.if-p-lt64.false (omega (arith, c.ranges.index.fits))
