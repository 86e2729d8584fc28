-- those of the names so far
use Rattle.std.proofs.Common.{◌≡◌, take}
use Rattle.omega_answers_synth.specs.Outputs.{names_without}
use Rattle.omega_answers_synth.proofs.outputs.names_without.Given as goal

abbrev pub invariant-loop-name : goal.invariant-loop-name
invariant-loop-name l = l.left.items ≡ names_without l.others (take l.name-index l.names)
