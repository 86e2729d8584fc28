-- as many edges as no usize counts
use Rattle.std.proofs.Common.{arith}
use Rattle.omega_hoa_edges.proofs.FullStates.{full_wide}
use Rattle.omega_hoa_edges.proofs.full_states.is_full.Goals as goal

pub returns-then-count-ge64 : goal.returns-then-count-ge64
returns-then-count-ge64 c = full_wide c.args.count c.args.state.now c.if-count-ge64.true (omega (arith, c.len-edges.ensures, c.len-edges.type_inv))
