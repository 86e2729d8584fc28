-- The loop of `write_places`: the entries of the places so far.
use Rattle.omega_arrays.specs.private.Written.{AreWritten}
use Rattle.omega_arrays.proofs.answer.write_places.Given as goal

abbrev pub invariant-loop-place : goal.invariant-loop-place
invariant-loop-place l = AreWritten l.solution l.place l.winners l.choices
