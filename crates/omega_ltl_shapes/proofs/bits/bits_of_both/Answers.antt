use Rattle.omega_ltl_shapes.proofs.BitLemmas.{or_bits}
use Rattle.omega_ltl_shapes.proofs.bits.bits_of_both.Goals as goal

pub returns : goal.returns
returns c = or_bits c.args.one c.args.other
