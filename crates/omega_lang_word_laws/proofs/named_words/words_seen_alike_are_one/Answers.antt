use Rattle.omega_lang_word_laws.proofs.naming.Named.{seen_alike_one}
use Rattle.omega_lang_word_laws.proofs.named_words.words_seen_alike_are_one.Goals as goal

pub returns : goal.returns
returns c = seen_alike_one
