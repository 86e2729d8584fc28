-- the tokens so far are read
use Rattle.std.proofs.Common.{take}
use Rattle.omega_lang_word_text.proofs.Naming.{AreRead}
use Rattle.omega_lang_word_text.proofs.translating.translation_of.Given as goal

abbrev pub invariant-loop-token : goal.invariant-loop-token
invariant-loop-token l = AreRead (take l.token-index l.own) l.tokens.items l.names.keys
