-- the flags so far
use Rattle.std.proofs.Common.{◌≡◌, map}
use Rattle.std.specs.List.{range_with_len}
use Rattle.omega_synth_check.specs.WaysOut.{is_way_out}
use Rattle.omega_synth_formula.proofs.letterless.ways_to_sink.Given as goal

abbrev pub invariant-loop-number : goal.invariant-loop-number
invariant-loop-number l = l.flags.items ≡ map (is_way_out l.rest l.sink) (range_with_len 0 l.number)
