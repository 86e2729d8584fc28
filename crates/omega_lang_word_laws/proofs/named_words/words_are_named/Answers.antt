use Rattle.omega_lang_word_laws.proofs.naming.Named.{words_named}
use Rattle.omega_lang_word_laws.proofs.named_words.words_are_named.Goals as goal

pub returns : goal.returns
returns c = words_named
