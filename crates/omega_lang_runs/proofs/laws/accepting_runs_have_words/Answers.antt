use Rattle.omega_lang_runs.proofs.runs.Words.{accepting_runs_have_words}
use Rattle.omega_lang_runs.proofs.laws.accepting_runs_have_words.Goals as goal

pub returns : goal.returns
returns c = accepting_runs_have_words
