-- the numbers so far
use Rattle.std.proofs.Common.{◌≡◌, get_or, map, take}
use Rattle.omega_synth_check.proofs.letterless.numbers_at.Given as goal

abbrev pub invariant-loop-place : goal.invariant-loop-place
invariant-loop-place l = l.found.items ≡ map (λ place. get_or l.numbers place 0) (take l.place-index l.places)
