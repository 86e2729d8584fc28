-- One name more is copied.
use Rattle.omega_lang_word_text.proofs.Naming.{copied_more}
use Rattle.omega_lang_word_text.proofs.translating.copy_of_names.Goals as goal

pub loop-name-preserved : goal.loop-name-preserved
loop-name-preserved c =
    copied_more c.args.names.now c.loop-name.name-index _ c.loop-name.same.items c.push.new.self.items _ c.loop-name-test.true c.loop-name.invariant c.in_ok-push.ensures.items c.in_ok-from_slice.ensures
