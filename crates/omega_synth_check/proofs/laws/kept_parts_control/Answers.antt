use Rattle.omega_synth_check.proofs.KeptParts.{kept_parts_control}
use Rattle.omega_synth_check.proofs.laws.kept_parts_control.Goals as goal

pub returns : goal.returns
returns c = kept_parts_control
