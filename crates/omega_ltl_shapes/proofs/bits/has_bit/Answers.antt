use Rattle.std.proofs.Common.{◌<◌, ◌^◌, ◌∙◌, sym}
use Rattle.std.proofs.lemmas.Bool.{le-ltb}
use Rattle.omega_ltl_shapes.proofs.BitLemmas.{none_above}
use Rattle.omega_ltl_shapes.proofs.bits.has_bit.Goals as goal

pub returns-else-place-lt64 : goal.returns-else-place-lt64
returns-else-place-lt64 c =
    let small : c.args.word < 2 ^ 64 = c.ranges.word.fits in
    le-ltb c.args.place 64 c.if-place-lt64.false ∙ sym (none_above c.args.word c.args.place small c.if-place-lt64.false)
