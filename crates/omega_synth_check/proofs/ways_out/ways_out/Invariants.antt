-- the flags so far
use Rattle.std.proofs.Common.{◌≡◌, map, take}
use Rattle.omega_synth_check.specs.WaysOut.{is_way_out}
use Rattle.omega_synth_check.proofs.ways_out.ways_out.Given as goal

abbrev pub invariant-loop-second : goal.invariant-loop-second
invariant-loop-second l = l.flags.items ≡ map (is_way_out l.complement l.sink) (take l.second-index l.seconds)
