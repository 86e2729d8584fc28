-- the parameters so far
use Rattle.std.proofs.Common.{◌≡◌, take}
use Rattle.omega_lang_trim.proofs.names.copied_parameters.Given as goal

abbrev pub invariant-loop-parameter : goal.invariant-loop-parameter
invariant-loop-parameter l = l.same.items ≡ take l.parameter-index l.parameters
