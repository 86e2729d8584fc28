use Rattle.std.proofs.Common.{◌<◌, ◌^◌}
use Rattle.omega_ltl_shapes.proofs.BitLemmas.{common_iff}
use Rattle.omega_ltl_shapes.proofs.bits.have_common_bit.Goals as goal

pub returns : goal.returns
returns c =
    let small : c.args.one < 2 ^ 64 = c.ranges.one.fits in
    common_iff c.args.one c.args.other small
