-- two small labels together have room
use Rattle.std.proofs.Common.{arith}
use Rattle.omega_hoa_edges.proofs.Depths.{small_fit}
use Rattle.omega_hoa_edges.proofs.judging.are_small.Goals as goal

pub returns : goal.returns
returns c =
    λ _. small_fit c.args.one.now c.args.other.now (omega (arith, c.size-size.ensures, c.if-size-gt-MOST_SMALL.false)) (omega (arith, c.size-size_of_other.ensures, c.if-size_of_other-gt-MOST_SMALL.false))
