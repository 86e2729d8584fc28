-- One bit is set.
use Rattle.std.proofs.Common.{◌%◌, ◌<◌, arith, w64}
use Rattle.std.proofs.lemmas.Nat.Bits.{bit_at_set_other, bit_at_set_same}
use Rattle.omega_lift_schedules.proofs.Bits.{bit_kept, bit_written}
use Rattle.omega_lift_schedules.proofs.position_set.insert.Goals as goal

pub returns-clause-inside : goal.returns-clause-inside
returns-clause-inside c =
    let bit : c.args.position % 64 < 64 = omega arith in
    bit_written c.args.words.now c.args.position _ 1 c.requires (bit_at_set_same w64 _ (c.args.position % 64) bit)

pub returns-clause-others : goal.returns-clause-others
returns-clause-others c other ne =
    let bit : c.args.position % 64 < 64 = omega arith in
    bit_kept c.args.words.now c.args.position _ other c.requires ne (λ i lt apart. bit_at_set_other w64 _ (c.args.position % 64) bit i apart)
