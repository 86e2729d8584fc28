-- the lists so far are not empty
use Rattle.std.proofs.Common.{ℕ, ◌<◌, [], length, get_or}
use Rattle.omega_synth_check.proofs.letters.first_empty.Given as goal

abbrev pub invariant-loop-at : goal.invariant-loop-at
invariant-loop-at l = (k : ℕ) → k < l.at → 0 < length (get_or l.lists k [])
