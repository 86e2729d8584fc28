-- the numbers of the values so far
use Rattle.std.proofs.Common.{take}
use Rattle.omega_synth_controllers.specs.Controllable.{AreNumbersOf}
use Rattle.omega_synth_controllers.proofs.controllable.numbers_in.Given as goal

abbrev pub invariant-loop-value : goal.invariant-loop-value
invariant-loop-value l = AreNumbersOf l.count (take l.value-index l.values) l.numbers
