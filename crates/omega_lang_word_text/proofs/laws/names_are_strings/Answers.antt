-- The law by its lemma.
use Rattle.omega_lang_word_text.proofs.Strings.{names_are_strings}
use Rattle.omega_lang_word_text.proofs.laws.names_are_strings.Goals as goal

pub returns : goal.returns
returns c = names_are_strings
