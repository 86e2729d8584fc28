use Rattle.omega_synth_check.proofs.KeptParts.{kept_parts_are_judged_right}
use Rattle.omega_synth_check.proofs.laws.kept_parts_are_judged_right.Goals as goal

pub returns : goal.returns
returns c = kept_parts_are_judged_right
