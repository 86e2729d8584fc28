-- `first_difference`: the lists give the same before this place.
use Rattle.std.proofs.Common.{◌≡◌, ◌<◌, ℕ}
use Rattle.omega_answers_game.specs.Winners.{given_at}
use Rattle.omega_answers_game.proofs.verify.winners.first_difference.Given as goal

abbrev pub invariant-loop-place : goal.invariant-loop-place
invariant-loop-place l = (v : ℕ) → v < l.place → given_at l.given v ≡ given_at l.winners v
