use Rattle.omega_synth_controllers.proofs.Accepting.{kept_runs_are_accepting}
use Rattle.omega_synth_controllers.proofs.laws.kept_runs_are_accepting.Goals as goal

pub returns : goal.returns
returns c = kept_runs_are_accepting
