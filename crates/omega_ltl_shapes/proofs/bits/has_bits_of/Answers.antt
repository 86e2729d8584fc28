use Rattle.omega_ltl_shapes.proofs.BitLemmas.{bits_iff}
use Rattle.omega_ltl_shapes.proofs.bits.has_bits_of.Goals as goal

pub returns : goal.returns
returns c = bits_iff c.args.more c.args.word
