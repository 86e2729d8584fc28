-- It is small, and apart by the table.
use Rattle.std.proofs.Common.{arith}
use Rattle.omega_hoa_edges.proofs.exclusive.add_small.Goals as goal

pub returns : goal.returns
returns c =
    λ is one tabled. record {
      small = omega (arith, c.size.ensures, c.if-size-gt-MOST_SMALL.false);
      apart = c.add_apart.ensures.apart is one tabled;
      tabled = c.add_apart.ensures.added is one tabled;
    }
