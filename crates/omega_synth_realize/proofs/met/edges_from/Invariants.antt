-- those of the numbers so far
use Rattle.std.proofs.Common.{◌≡◌, take}
use Rattle.std.specs.Prelude.{filter}
use Rattle.omega_synth_realize.specs.private.Met.{leaves_flagged}
use Rattle.omega_synth_realize.proofs.met.edges_from.Given as goal

abbrev pub invariant-loop-number : goal.invariant-loop-number
invariant-loop-number l = l.found.items ≡ filter (leaves_flagged l.rounds l.flags) (take l.number-index l.numbers)
