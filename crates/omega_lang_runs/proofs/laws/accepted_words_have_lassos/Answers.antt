use Rattle.omega_lang_runs.proofs.runs.Words.{accepted_words_have_lassos}
use Rattle.omega_lang_runs.proofs.laws.accepted_words_have_lassos.Goals as goal

pub returns : goal.returns
returns c = accepted_words_have_lassos
