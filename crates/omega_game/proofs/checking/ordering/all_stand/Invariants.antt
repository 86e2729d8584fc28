-- What holds in the loop of `all_stand`: whether each marked place stands in the order.
use Rattle.std.proofs.Common.{ℕ, ◌<◌, IsTrue}
use Rattle.omega_game_reaching.specs.Reaching.{mark_at}
use Rattle.omega_game.specs.private.checking.Ordering.{StandsInOrder}
use Rattle.omega_game.proofs.checking.ordering.all_stand.Given as goal

abbrev pub invariant-loop-place : goal.invariant-loop-place
invariant-loop-place l =
    (v : ℕ) → v < l.place → IsTrue (mark_at l.marks v) → StandsInOrder l.game l.player l.choices l.numbers l.ranks l.ends v
