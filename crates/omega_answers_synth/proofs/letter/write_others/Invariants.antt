-- the literals so far
use Rattle.std.proofs.Common.{◌≡◌, ◌++◌, take}
use Rattle.omega_answers_synth.specs.private.Literals.{literals_after}
use Rattle.omega_answers_synth.proofs.letter.write_others.Given as goal

abbrev pub invariant-loop-p : goal.invariant-loop-p
invariant-loop-p l = l.out.items ≡ l.initial.out.items ++ literals_after l.names l.letter (take l.p-index l.others)
