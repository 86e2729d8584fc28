use Rattle.omega_lang_runs.proofs.runs.Words.{lassos_have_accepted_words}
use Rattle.omega_lang_runs.proofs.laws.lassos_have_accepted_words.Goals as goal

pub returns : goal.returns
returns c = lassos_have_accepted_words
