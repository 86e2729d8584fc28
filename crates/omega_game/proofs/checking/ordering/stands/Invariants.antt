-- What holds in the loop of `stands`: whether a place stands in the order at a position of its priority,
-- with each of its edges in order.
use Rattle.std.proofs.Common.{ℕ, ◌<◌, get_or}
use Rattle.omega_game.specs.private.checking.Ordering.{IsInOrder}
use Rattle.omega_game.proofs.checking.ordering.stands.Given as goal

abbrev pub invariant-loop-next : goal.invariant-loop-next
invariant-loop-next l =
    (k : ℕ) → k < l.next-index → IsInOrder l.game l.player l.numbers l.ends l.place (get_or l.next-items k 0)
