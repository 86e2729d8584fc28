use Rattle.omega_lang_runs.proofs.runs.Steps.{lassos_are_accepting_runs}
use Rattle.omega_lang_runs.proofs.laws.lassos_are_accepting_runs.Goals as goal

pub returns : goal.returns
returns c = lassos_are_accepting_runs
