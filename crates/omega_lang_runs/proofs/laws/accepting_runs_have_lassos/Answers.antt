use Rattle.omega_lang_runs.proofs.runs.Steps.{accepting_runs_have_lassos}
use Rattle.omega_lang_runs.proofs.laws.accepting_runs_have_lassos.Goals as goal

pub returns : goal.returns
returns c = accepting_runs_have_lassos
