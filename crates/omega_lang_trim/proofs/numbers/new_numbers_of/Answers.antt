-- one number more
use Rattle.std.proofs.Common.{◌∙◌}
use Rattle.omega_lang_trim.specs.Trimmed.{new_number}
use Rattle.omega_lang_trim.proofs.Among.{mapped_more}
use Rattle.omega_lang_trim.proofs.numbers.new_numbers_of.Goals as goal

pub loop-number-preserved : goal.loop-number-preserved
loop-number-preserved c =
    c.in_ok-push.ensures.ok
    ∙ mapped_more (new_number c.args.kept.now.keys) c.args.numbers.now c.loop-number.number-index 0 c.loop-number.new c.place_in.result c.loop-number-test.true
    c.loop-number.invariant c.place_in.ensures
