-- the names so far
use Rattle.std.proofs.Common.{◌≡◌, ◌++◌, take}
use Rattle.omega_answers_synth.specs.Parting.{names_at}
use Rattle.omega_answers_synth.proofs.parting.append_names.Given as goal

abbrev pub invariant-loop-place : goal.invariant-loop-place
invariant-loop-place l = l.out.items ≡ l.fn.out.items ++ names_at l.names (take l.place-index l.places)
