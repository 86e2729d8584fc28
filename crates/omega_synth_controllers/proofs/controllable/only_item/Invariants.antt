-- no item before is the one
use Rattle.std.proofs.Common.{◌≡◌, [], take}
use Rattle.std.specs.List.{filter}
use Rattle.omega_synth_controllers.specs.Controllable.{is_controllable_item}
use Rattle.omega_synth_controllers.proofs.controllable.only_item.Given as goal

abbrev pub invariant-loop-at : goal.invariant-loop-at
invariant-loop-at l = filter is_controllable_item (take l.at l.headers) ≡ []
