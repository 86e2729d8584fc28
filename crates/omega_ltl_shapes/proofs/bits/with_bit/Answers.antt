use Rattle.omega_ltl_shapes.proofs.BitLemmas.{one_more}
use Rattle.omega_ltl_shapes.proofs.bits.with_bit.Goals as goal

pub returns : goal.returns
returns c = one_more c.args.word c.args.place c.requires
