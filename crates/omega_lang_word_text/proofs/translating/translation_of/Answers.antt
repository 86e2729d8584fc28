-- One token more is read.
use Rattle.omega_lang_word_text.proofs.Naming.{read_step}
use Rattle.omega_lang_word_text.proofs.translating.translation_of.Goals as goal

pub loop-token-preserved : goal.loop-token-preserved
loop-token-preserved c =
    read_step c.args.own.now c.loop-token.token-index _ c.loop-token.tokens.items c.push.new.self.items c.loop-token.names.keys c.translated_token.new.names.keys c.in_ok-read.read c.loop-token-test.true
    c.loop-token.invariant c.in_ok-read.ensures.names c.in_ok-read.ensures.token c.in_ok-push.ensures.items
