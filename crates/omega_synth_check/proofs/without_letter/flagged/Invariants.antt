-- those so far whose flags are set
use Rattle.std.proofs.Common.{◌≡◌, filter, take}
use Rattle.omega_synth_check.specs.WaysOut.{flag}
use Rattle.omega_synth_check.proofs.without_letter.flagged.Given as goal

abbrev pub invariant-loop-number : goal.invariant-loop-number
invariant-loop-number l = l.found.items ≡ filter (flag l.flags) (take l.number-index l.numbers)
