-- What holds in the loop of `are_closed`: the marked places before the one looked at lead to marked ones.
use Rattle.std.proofs.Common.{ℕ, ◌<◌, IsTrue, Contains}
use Rattle.omega_game_reaching.specs.Reaching.{left_at, mark_at}
use Rattle.omega_game.proofs.following.are_closed.Given as goal

abbrev pub invariant-loop-place : goal.invariant-loop-place
invariant-loop-place l =
    (v : ℕ) → v < l.place → IsTrue (mark_at l.marks v) → (w : ℕ) → Contains (left_at l.game l.choices v) w → IsTrue (mark_at l.marks w)
