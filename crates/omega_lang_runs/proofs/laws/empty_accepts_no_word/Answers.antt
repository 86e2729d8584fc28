use Rattle.omega_lang_runs.proofs.Verdicts.{empty_accepts_no_word}
use Rattle.omega_lang_runs.proofs.laws.empty_accepts_no_word.Goals as goal

pub returns : goal.returns
returns c = empty_accepts_no_word
